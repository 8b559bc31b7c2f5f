use Rattle.std.proofs.Common.{◌≡◌, take, drop, map}
use Rattle.sfu_c.specs.Announcing.{told_request}
use Rattle.sfu_c.proofs.announcing.write_requests.Given as goal

abbrev pub invariant-loop-k : goal.invariant-loop-k
invariant-loop-k l = record {
  written : take l.k l.room ≡ map told_request (take l.k l.set);
  rest : drop l.k l.room ≡ drop l.k l.initial.room;
}
