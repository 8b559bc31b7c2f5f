use Rattle.std.proofs.Common.{◌≡◌, length}
use Rattle.std.specs.Prelude.{All}
use Rattle.core_steps.specs.Opening.{IsNewDesk}
use Rattle.core_steps.proofs.world.new_desks.Given as goal

abbrev pub invariant-loop-made : goal.invariant-loop-made
invariant-loop-made l = record {
  count : length l.desks.items ≡ l.made;
  each : All (IsNewDesk l.settings) l.desks.items;
}
