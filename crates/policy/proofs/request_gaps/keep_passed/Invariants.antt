use Rattle.std.proofs.Common.{◌≡◌, ◌≤◌, ◌++◌, length, take, drop}
use Rattle.policy.specs.Asking.{asking}
use Rattle.policy.specs.RequestGaps.{asks_passed, gaps_after}
use Rattle.policy.proofs.request_gaps.keep_passed.Given as goal

abbrev pub invariant-loop-at : goal.invariant-loop-at
invariant-loop-at l = record {
  left : take l.kept l.asks ++ asks_passed l.gap_ms (asking l.asker) l.legs (drop l.at l.asks)
      ≡ asks_passed l.gap_ms (asking l.asker) l.fn.legs l.fn.asks;
  noted : gaps_after l.gap_ms (asking l.asker) l.legs (drop l.at l.asks)
      ≡ gaps_after l.gap_ms (asking l.asker) l.fn.legs l.fn.asks;
  fewer : l.kept ≤ l.at;
  size : length l.asks ≡ length l.fn.asks;
  legs : length l.legs ≡ length l.fn.legs;
}
