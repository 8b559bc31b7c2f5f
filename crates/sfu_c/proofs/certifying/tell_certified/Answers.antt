use Rattle.std.proofs.Common.{refl, subst, arith}
use Rattle.std.proofs.lemmas.Option.{slice_get_within}
use Rattle.sfu_c.specs.Certifying.{TellsCertificate}
use Rattle.sfu_c.proofs.certifying.tell_certified.Goals as goal

-- what is told is what the desk holds
pub returns-in-Some-clause-certified : goal.returns-in-Some-clause-certified
returns-in-Some-clause-certified c = λ d there.
    let told = c.tell_certificate in
    let shows = c.in-Some.ensures.some d there in
    subst (λ rows. TellsCertificate rows d.bounds.cert c.args.live.now told.new.live c.args.kept.now told.new.kept c.args.implied.now told.new.implied told.result)
    shows.live
    (subst (λ cert. TellsCertificate c.in-Some.shown.live.now cert c.args.live.now told.new.live c.args.kept.now told.new.kept c.args.implied.now told.new.implied told.result)
    shows.cert told.ensures)

pub returns-in-None-clause-certified : goal.returns-in-None-clause-certified
returns-in-None-clause-certified c = λ d there.
    absurd (omega (arith, c.in-None.ensures.none.0 refl, slice_get_within c.args.conference.now.world.desks c.args.publisher d there))
