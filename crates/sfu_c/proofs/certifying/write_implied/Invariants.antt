use Rattle.std.proofs.Common.{◌≡◌, take, drop, map}
use Rattle.sfu_c.specs.Certifying.{told_implied}
use Rattle.sfu_c.proofs.certifying.write_implied.Given as goal

abbrev pub invariant-loop-k : goal.invariant-loop-k
invariant-loop-k l = record {
  written : take l.k l.room ≡ map told_implied (take l.k l.entries);
  rest : drop l.k l.room ≡ drop l.k l.initial.room;
}
