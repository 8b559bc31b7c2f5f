use Rattle.std.proofs.Common.{◌-◌, ◌≡◌, length, take, drop}
use Rattle.bounding_set.proofs.pairs.grow.Given as goal

abbrev pub invariant-loop-count : goal.invariant-loop-count
invariant-loop-count l = record {
  len : length l.kept.items ≡ l.count;
  beginning : take l.low l.kept.items ≡ take l.low l.fn.kept.items;
  end : drop (l.count - l.behind) l.kept.items ≡ drop (length l.fn.kept.items - l.behind) l.fn.kept.items;
}
