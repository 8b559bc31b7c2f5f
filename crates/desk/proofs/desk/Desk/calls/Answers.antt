use Rattle.std.proofs.Common.{ap, ◌∙◌}
use Rattle.desk.specs.declared.base.Base.{Base}
use Rattle.desk.specs.State.{DeskState, now_of}
use Rattle.desk.proofs.DeskLemmas.{calls_of-now}
use Rattle.desk.proofs.desk.Desk.calls.Goals as goal

pub returns-clause-value : goal.returns-clause-value
returns-clause-value c =
    ap (λ (b : Base). b.calls) (c.whole.ensures.value ∙ c.self.invariant.whole)
    ∙ ap (λ (d : DeskState). (now_of d).calls) c.self.view_is
    ∙ calls_of-now c.args.self.now
