use Rattle.std.proofs.Common.{ℕ, List, map, ap, ◌∙◌}
use Rattle.request_text.specs.Asked.{leaves}
use Rattle.request_text.specs.Lines.{after_changes, without}
use Rattle.request_text.proofs.LiveLemmas.{left_count, takes_leave}
use Rattle.request_text.proofs.bound.take_goodbye.Goals as goal

pub loop-source-preserved : goal.loop-source-preserved
loop-source-preserved c = λ live are.
    let now = c.loop-source.invariant live are in
    let removed = c.remove.ensures in
    let owner = c.in-Some.source.0 in
    let count = left_count c.remove.result c.loop-source.bounds c.remove.new.self removed.shrinks removed.unchanged in (
      without now.0 owner,
      takes_leave now.0 c.loop-source.bounds.rows c.remove.new.self.rows owner c.remove.result now.1 removed.value removed.removed count removed.rising,
      now.2 ∙ ap (λ (ss : List ℕ). after_changes (map leaves ss) now.0) c.in-Some.ensures.steps,
    )
