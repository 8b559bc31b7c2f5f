use Rattle.std.proofs.Common.{◌<◌, ◌≤◌, length, arith, ◌∙◌, sym, ap}
use Rattle.settings.specs.Settings.{sources, are_distinct}
use Rattle.std.proofs.lemmas.List.{drop_all}
use Rattle.settings.proofs.SettingsLemmas.{length-sources, distinct_more, distinct_fails}
use Rattle.settings.proofs.checks.are_all_distinct.Goals as goal

pub loop-place-preserved : goal.loop-place-preserved
loop-place-preserved c =
    let below : c.loop-place.place < length (sources c.args.parts.now) = omega (arith, length-sources c.args.parts.now) in
    c.loop-place.invariant ∙ distinct_more (sources c.args.parts.now) c.loop-place.place below c.if-not-is_single.ensures

pub returns-then-not-is_single : goal.returns-then-not-is_single
returns-then-not-is_single c =
    let below : c.loop-place.place < length (sources c.args.parts.now) = omega (arith, length-sources c.args.parts.now) in
    sym (c.loop-place.invariant ∙ distinct_fails (sources c.args.parts.now) c.loop-place.place below c.if-not-is_single.ensures)

pub returns : goal.returns
returns c =
    let over : length (sources c.args.parts.now) ≤ c.loop-place.place = omega (arith, length-sources c.args.parts.now) in
    sym (c.loop-place.invariant ∙ ap are_distinct (drop_all c.loop-place.place (sources c.args.parts.now) over))
