use Rattle.std.proofs.Common.{◌≡◌, ◌++◌, map, take}
use Rattle.rate_cert.specs.Certificate.{places_of}
use Rattle.rate_cert.proofs.checker.named.Given as goal

abbrev pub invariant-loop-k : goal.invariant-loop-k
invariant-loop-k l = l.places.items ≡ places_of (take l.k-index l.kept)

abbrev pub invariant-loop-i : goal.invariant-loop-i
invariant-loop-i l = l.places.items ≡ places_of l.kept ++ map (λ i. i.place) (take l.i-index l.implied)
