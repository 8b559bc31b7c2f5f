use Rattle.std.proofs.Common.{◌≡◌, ◌≤◌, vec_len, vec_capacity, length}
use Rattle.std.specs.Prelude.{All}
use Rattle.rate_desk.specs.Shares.{IsDeskOf}
use Rattle.rate_desk.proofs.gathering.unlock.Given as goal

abbrev pub invariant-loop-lock : goal.invariant-loop-lock
invariant-loop-lock g l = record {
  count : vec_len l.desks ≡ length l.yielded;
  room : vec_len l.fn.locks ≤ vec_capacity l.desks;
  each : All (IsDeskOf g.D.DeskCalls.gap g.D.DeskCalls.request_ms) l.desks.items;
}
