use Rattle.std.proofs.Common.{◌≡◌, take, drop, map}
use Rattle.std.specs.Prelude.{All}
use Rattle.tmmbr_c.specs.Numbers.{IsRequestInRange, asked_request}
use Rattle.tmmbr_c.proofs.showing.write_requests.Given as goal

abbrev pub invariant-loop-k : goal.invariant-loop-k
invariant-loop-k l = record {
  written : map asked_request (take l.k l.room) ≡ take l.k l.requests;
  in_range : All IsRequestInRange (take l.k l.room);
  rest : drop l.k l.room ≡ drop l.k l.initial.room;
}
