use Rattle.std.proofs.Common.{◌≡◌, take, map}
use Rattle.std.specs.List.{AllWithin}
use Rattle.tmmbr_c.specs.Numbers.{IsImpliedInRange, implied_entry}
use Rattle.tmmbr_c.proofs.reading.read_implied_entries.Given as goal

abbrev pub invariant-loop-place : goal.invariant-loop-place
invariant-loop-place l = (l.implied.items ≡ map implied_entry (take l.place l.entries)) × AllWithin IsImpliedInRange l.entries 0 l.place
