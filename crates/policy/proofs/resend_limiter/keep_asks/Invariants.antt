use Rattle.std.proofs.Common.{◌≡◌, ◌≤◌, ◌++◌, length, take, drop}
use Rattle.policy.specs.ResendLimiter.{terms_of}
use Rattle.policy.specs.Nacks.{IsLookedUp, asks_left, books_after}
use Rattle.policy.proofs.resend_limiter.keep_asks.Given as goal

abbrev pub invariant-loop-at : goal.invariant-loop-at
invariant-loop-at l = record {
  left : take l.kept l.asks ++ asks_left (terms_of l.known) l.sent l.books (drop l.at l.asks)
      ≡ asks_left (terms_of l.known) l.sent l.fn.books l.fn.asks;
  noted : books_after (terms_of l.known) l.sent l.books (drop l.at l.asks)
      ≡ books_after (terms_of l.known) l.sent l.fn.books l.fn.asks;
  looked_up : IsLookedUp (terms_of l.known) l.sent l.last;
  fewer : l.kept ≤ l.at;
  size : length l.asks ≡ length l.fn.asks;
}
