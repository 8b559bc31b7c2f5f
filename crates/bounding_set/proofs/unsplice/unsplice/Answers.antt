use Rattle.std.proofs.Common.{sym, subst}
use Rattle.std.specs.Prelude.{Contains}
use Rattle.rate_cert.proofs.CheckerLemmas.{yes_is, no_is}
use Rattle.bounding_set.specs.Gap.{IsEnvelopeButAt}
use Rattle.bounding_set.specs.Kept.{StandsAt}
use Rattle.bounding_set.proofs.SplicedLemmas.{IsEnvelopeOf-without}
use Rattle.bounding_set.proofs.UnspliceLemmas.{IsEnvelopeButAt-remove}
use Rattle.bounding_set.proofs.unsplice.unsplice.Goals as goal

absent : (c : goal.In-None) → ¬ Contains c.args.lines.now.items c.args.gone.now
absent c = subst (λ s. ¬ Contains s c.args.gone.now) c.as_slice.ensures.value c.in-None.ensures.absent

pub put_back-requires-clause-envelope : goal.put_back-requires-clause-envelope
put_back-requires-clause-envelope c =
    let at : StandsAt c.args.lines.now.items c.args.gone.now c.in-Some.place =
    subst (λ s. StandsAt s c.args.gone.now c.in-Some.place) c.as_slice.ensures.value c.in-Some.ensures.found in
    subst (λ ls. IsEnvelopeButAt c.args.rows.now ls c.in-Some.place) (sym c.remove.ensures.items)
    (IsEnvelopeButAt-remove c.args.gone.now c.args.rows.now c.args.lines.now.items c.in-Some.place c.requires.envelope at)

pub returns-in-Some-clause-was_line : goal.returns-in-Some-clause-was_line
returns-in-Some-clause-was_line c =
    let at : StandsAt c.args.lines.now.items c.args.gone.now c.in-Some.place =
    subst (λ s. StandsAt s c.args.gone.now c.in-Some.place) c.as_slice.ensures.value c.in-Some.ensures.found in
    yes_is (c.in-Some.place, at.in_range, at.is c.args.gone.now)

pub returns-in-None-clause-was_line : goal.returns-in-None-clause-was_line
returns-in-None-clause-was_line c = no_is (absent c)

pub returns-in-None-clause-envelope : goal.returns-in-None-clause-envelope
returns-in-None-clause-envelope c =
    IsEnvelopeOf-without c.args.gone.now c.args.rows.now c.args.lines.now.items c.requires.envelope (absent c)
