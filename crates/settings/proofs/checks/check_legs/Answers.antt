use Rattle.std.proofs.Common.{◌<◌, length, arith, ◌∙◌}
use Rattle.std.proofs.lemmas.Result.{err_from_is_err_and}
use Rattle.settings.specs.Settings.{leg_checks}
use Rattle.settings.proofs.SettingsLemmas.{checks_more, checks_here}
use Rattle.settings.proofs.checks.check_legs.Goals as goal

pub loop-k-preserved : goal.loop-k-preserved
loop-k-preserved c =
    let below : c.loop-k.k < length c.args.parts.now.legs.items = omega arith in
    c.loop-k.invariant ∙ checks_more (leg_checks c.args.parts.now) c.args.parts.now.legs.items c.loop-k.k below c.in_ok-check_leg.ensures

pub returns-in_err-check_leg : goal.returns-in_err-check_leg
returns-in_err-check_leg c =
    let below : c.loop-k.k < length c.args.parts.now.legs.items = omega arith in
    let found = checks_here (leg_checks c.args.parts.now) c.args.parts.now.legs.items c.loop-k.k c.in_err-check_leg.field-0.0 below c.in_err-check_leg.ensures in
    let p = err_from_is_err_and c.from_residual.result c.from_residual.ensures.1 in
    rw (p.1, p.2) (c.loop-k.invariant ∙ found)
