use Rattle.std.proofs.Common.{◌≡◌, ◌∙◌, sym, subst, slice_get, Some}
use Rattle.std.proofs.lemmas.Option.{same_Some}
use Rattle.conference.specs.Conference.{ConferenceState}
use Rattle.sfu_c.proofs.certifying.sfu_certified.Goals as goal

-- the conference that was taken out of the slot is the one that it held
pub returns-clause-certified : goal.returns-clause-certified
returns-clause-certified c = λ conference d held there.
    let same : c.deref.result.now ≡ conference = c.deref.ensures ∙ same_Some c.in-Some.held.value conference (c.in-Some.ensures.taken ∙ held) in
    c.tell_certified-answer.ensures.certified d
    (subst (λ (s : ConferenceState). slice_get s.world.desks c.args.endpoint ≡ Some d) (sym same) there)
