use Rattle.std.proofs.Common.{◌≡◌, take, map}
use Rattle.std.specs.List.{AllWithin}
use Rattle.tmmbr_c.specs.Numbers.{IsKeptInRange, kept_entry}
use Rattle.tmmbr_c.proofs.reading.read_kept_entries.Given as goal

abbrev pub invariant-loop-place : goal.invariant-loop-place
invariant-loop-place l = (l.kept.items ≡ map kept_entry (take l.place l.entries)) × AllWithin IsKeptInRange l.entries 0 l.place
