use Rattle.std.proofs.Common.{◌≡◌, take}
use Rattle.addresses.specs.SenderTable.{addresses_of}
use Rattle.addresses.proofs.sender_table.SenderTable.new.Given as goal

abbrev pub invariant-loop-entry : goal.invariant-loop-entry
invariant-loop-entry l = (l.origins ≡ take l.entry-index l.entries) × (l.addresses ≡ addresses_of l.origins)
