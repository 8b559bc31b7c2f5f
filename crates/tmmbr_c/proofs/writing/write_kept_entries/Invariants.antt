use Rattle.std.proofs.Common.{◌≡◌, take, drop, map}
use Rattle.std.specs.Prelude.{All}
use Rattle.tmmbr_c.specs.Numbers.{IsKeptInRange, kept_entry}
use Rattle.tmmbr_c.specs.Order.{place_in}
use Rattle.tmmbr_c.specs.Renumbering.{moved_kept}
use Rattle.tmmbr_c.proofs.writing.write_kept_entries.Given as goal

abbrev pub invariant-loop-k : goal.invariant-loop-k
invariant-loop-k l = record {
  written : map kept_entry (take l.k l.kept) ≡ map (moved_kept (place_in l.order)) (take l.k l.entries);
  in_range : All IsKeptInRange (take l.k l.kept);
  rest : drop l.k l.kept ≡ drop l.k l.initial.kept;
}
