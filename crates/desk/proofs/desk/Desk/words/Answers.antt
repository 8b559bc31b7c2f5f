use Rattle.std.proofs.Common.{ap, ◌∙◌}
use Rattle.desk.specs.declared.base.Base.{Base}
use Rattle.desk.specs.State.{DeskState, now_of}
use Rattle.desk.proofs.TraceLemmas.{words-after}
use Rattle.desk.proofs.desk.Desk.words.Goals as goal

pub returns-clause-value : goal.returns-clause-value
returns-clause-value c =
    let desk = c.args.self.now in
    ap (λ (b : Base). b.words) (c.whole.ensures.value ∙ c.self.invariant.whole)
    ∙ ap (λ (d : DeskState). (now_of d).words) c.self.view_is
    ∙ words-after desk.request_ms desk.base desk.history
