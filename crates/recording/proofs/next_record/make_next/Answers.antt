use Rattle.std.proofs.Common.{◌∙◌, arith, below_more, refl, subst, sym}
use Rattle.std.proofs.lemmas.Bool.{false≢true}
use Rattle.recording.specs.declared.next_record.TheConstants.{MAX_RECORD}
use Rattle.recording.proofs.next_record.make_next.Goals as goal

pub loop-number-preserved : goal.loop-number-preserved
loop-number-preserved g c =
    below_more _ _ c.loop-number.invariant
    (subst (goal.F-post g c.args.make c.loop-number.number) (c.is_there.ensures.0 c.if-not-is_there.false) c.make-made.ensures)

pub returns-then-not-is_there : goal.returns-then-not-is_there
returns-then-not-is_there g c = record {
  number = c.loop-number.number;
  there = c.loop-number.invariant;
  here = c.make-made.ensures;
  last = λ is. absurd (false≢true (sym c.if-not-is_there.true ∙ c.is_there.ensures.1 is));
}

pub returns : goal.returns
returns g c = record {
  number = MAX_RECORD;
  there = λ k less. c.loop-number.invariant k (omega (arith, less));
  here = c.make.ensures;
  last = λ _. refl;
}
