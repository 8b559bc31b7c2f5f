use Rattle.std.proofs.Common.{◌≡◌, map, take}
use Rattle.cli.proofs.checking.kept_entries.Given as goal

abbrev pub invariant-loop-entry : goal.invariant-loop-entry
invariant-loop-entry l = l.entries.items ≡ map (λ k. k.1) (take l.entry-index l.kept)
