use Rattle.std.proofs.Common.{ℕ, ◌≡◌, ◌∙◌, ◌+◌, ap, add-one, sym, arith}
use Rattle.std.specs.Prelude.{◌==◌, if◌then◌else◌}
use Rattle.std.specs.List.{list_any}
use Rattle.settings.specs.declared.settings.LegSettings.{LegSettings}
use Rattle.cli.specs.Plan.{count_publishers}
use Rattle.cli.proofs.plan.count_publishers.Goals as goal

pub loop-endpoint-preserved : goal.loop-endpoint-preserved
loop-endpoint-preserved c =
    let legs = c.args.legs.now in
    let endpoint = c.loop-endpoint.endpoint in (
      c.counted-count.ensures.value
          ∙ ap (λ (n : ℕ). if list_any (λ (leg : LegSettings). leg.publisher == endpoint) legs then n + 1 else n) c.loop-endpoint.invariant.0
          ∙ ap (count_publishers legs) (sym (add-one endpoint)),
      omega (arith, c.counted-count.ensures.bound, c.loop-endpoint.invariant.1),
    )
