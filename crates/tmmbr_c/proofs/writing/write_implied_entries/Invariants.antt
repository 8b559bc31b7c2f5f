use Rattle.std.proofs.Common.{◌≡◌, take, drop, map}
use Rattle.std.specs.Prelude.{All}
use Rattle.tmmbr_c.specs.Numbers.{IsImpliedInRange, implied_entry}
use Rattle.tmmbr_c.specs.Order.{place_in}
use Rattle.tmmbr_c.specs.Renumbering.{moved_implied}
use Rattle.tmmbr_c.proofs.writing.write_implied_entries.Given as goal

abbrev pub invariant-loop-k : goal.invariant-loop-k
invariant-loop-k l = record {
  written : map implied_entry (take l.k l.implied) ≡ map (moved_implied (place_in l.order)) (take l.k l.entries);
  in_range : All IsImpliedInRange (take l.k l.implied);
  rest : drop l.k l.implied ≡ drop l.k l.initial.implied;
}
