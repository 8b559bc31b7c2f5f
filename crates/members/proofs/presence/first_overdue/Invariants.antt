use Rattle.std.proofs.Common.{◌≡◌, ℕ, ◌<◌, take, true}
use Rattle.std.specs.List.{list_any}
use Rattle.members.specs.declared.presence.TheConstants.{LAST_MOMENT}
use Rattle.members.specs.Presence.{is_overdue, NobodyOverdue}
use Rattle.members.proofs.presence.first_overdue.Given as goal

abbrev pub invariant-loop-endpoint : goal.invariant-loop-endpoint
invariant-loop-endpoint l = record {
  before : (moment : ℕ) → moment < l.first → NobodyOverdue l.timeout moment (take l.endpoint-index l.endpoints);
  first : l.first < LAST_MOMENT → list_any (is_overdue l.timeout l.first) (take l.endpoint-index l.endpoints) ≡ true;
}
