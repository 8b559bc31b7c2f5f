use Rattle.std.proofs.Common.{◌≡◌, length, take, drop}
use Rattle.bounding_set.specs.Certificate.{start_end, pairs_from}
use Rattle.bounding_set.specs.Kept.{HasLeftEnd, end_of, pairs_of}
use Rattle.bounding_set.proofs.pairs.make_pairs.Given as goal

abbrev pub invariant-loop-place : goal.invariant-loop-place
invariant-loop-place l = record {
  as_many : length l.kept ≡ length l.announced;
  done : take l.place (pairs_of l.kept) ≡ take l.place (pairs_from start_end l.announced);
  end : drop l.high (pairs_of l.kept) ≡ drop l.high (pairs_from start_end l.announced);
  begins : HasLeftEnd (end_of l.left) (drop l.place l.announced);
  rest : pairs_from (end_of l.left) (drop l.place l.announced) ≡ drop l.place (pairs_from start_end l.announced);
}
