use Rattle.std.proofs.Common.{ℕ, ◌+◌, ap, arith}
use Rattle.drawing.specs.Picture.{named_text}
use Rattle.drawing.proofs.PictureLemmas.{names-step}
use Rattle.drawing.proofs.shapes.push_names.Goals as goal

pub loop-entry-preserved : goal.loop-entry-preserved
loop-entry-preserved c = (
  ap (λ (n : ℕ). n + 1) c.loop-entry.invariant.0,
  names-step (named_text c.args.scale c.args.rows.now) c.args.kept.now c.loop-entry.entry-index c.loop-entry.number
      c.entry-item.result _ _ _ (omega arith) c.loop-entry.invariant.0 c.entry-item.is c.loop-entry.invariant.1
      c.in_ok-push_named.ensures,
)
