use Rattle.std.proofs.Common.{◌∷◌, sym, subst}
use Rattle.std.specs.Prelude.{All, ◌≢◌}
use Rattle.rate_cert.specs.declared.request.Request.{Request}
use Rattle.bounding_set.specs.Envelope.{IsEnvelopeOf}
use Rattle.bounding_set.proofs.MemberLemmas.{HasOneMore-taken, IsEnvelopeOf-fewer, HasLineOf-line, absent_owner}
use Rattle.bounding_set.proofs.live.take_out.Goals as goal

abbrev gone : (c : goal.After-unsplice-arg-in-Some-2-1) → Request
gone c = record { owner = c.args.owner; tuple = c.in-Some.tuple }

pub unsplice-requires-clause-envelope : goal.unsplice-requires-clause-envelope
unsplice-requires-clause-envelope c =
    let old = c.args.rows.now.items in
    let new = c.take.new.rows.items in
    subst (λ rows. IsEnvelopeOf (gone c ∷ rows) c.args.lines.now.items) (sym c.as_slice.ensures.value)
    (IsEnvelopeOf-fewer old new c.args.lines.now.items (gone c)
    (HasOneMore-taken old new (gone c) c.requires.holds.rising c.take.ensures.rising (sym c.in-Some.ensures.value) c.take.ensures.taken) c.requires.holds.envelope)

pub unsplice-requires-clause-others : goal.unsplice-requires-clause-others
unsplice-requires-clause-others c =
    subst (All (λ r. r.owner.0 ≢ c.args.owner.0)) (sym c.as_slice.ensures.value)
    (absent_owner c.take.new.rows.items c.args.owner.0 c.take.ensures.rising c.take.ensures.taken.changed)

pub returns-in-Some-clause-was_line : goal.returns-in-Some-clause-was_line
returns-in-Some-clause-was_line c =
    λ was. HasLineOf-line (record { owner = c.args.owner; tuple = c.in-Some.tuple }) c.args.lines.now.items (c.unsplice.ensures.was_line.0 was)
