use Rattle.std.proofs.Common.{◌<◌, ◌≤◌, length, arith, ◌∙◌, sym, ap, refl}
use Rattle.std.proofs.lemmas.List.{drop_all}
use Rattle.std.specs.List.{list_any}
use Rattle.std.specs.Prelude.{◌==◌}
use Rattle.settings.specs.Settings.{sources}
use Rattle.settings.proofs.SettingsLemmas.{length-sources, any_more, any_here}
use Rattle.settings.proofs.checks.is_single.Goals as goal

pub loop-other-preserved : goal.loop-other-preserved
loop-other-preserved c =
    let below : c.loop-other.other < length (sources c.args.parts.now) = omega (arith, length-sources c.args.parts.now, c.requires.counted) in
    c.loop-other.invariant ∙ any_more c.source_at-source.result (sources c.args.parts.now) c.loop-other.other below (λ e. c.if-source_at-source.false (c.source_at.ensures ∙ e))

pub returns-then-source_at-source : goal.returns-then-source_at-source
returns-then-source_at-source c =
    let below : c.loop-other.other < length (sources c.args.parts.now) = omega (arith, length-sources c.args.parts.now, c.requires.counted) in
    let found = any_here c.source_at-source.result (sources c.args.parts.now) c.loop-other.other below (sym c.source_at.ensures ∙ c.if-source_at-source.true) in
    let all = c.loop-other.invariant ∙ found in
    rw (← c.source_at-source.ensures, all) refl

pub returns : goal.returns
returns c =
    let over : length (sources c.args.parts.now) ≤ c.loop-other.other = omega (arith, length-sources c.args.parts.now, c.requires.counted) in
    let none = c.loop-other.invariant ∙ ap (list_any (λ x. x == c.source_at-source.result)) (drop_all c.loop-other.other (sources c.args.parts.now) over) in
    rw (← c.source_at-source.ensures, none) refl
