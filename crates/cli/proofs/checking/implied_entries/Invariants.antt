use Rattle.std.proofs.Common.{◌≡◌, map, take}
use Rattle.request_text.specs.CheckFile.{implied_by}
use Rattle.cli.proofs.checking.implied_entries.Given as goal

abbrev pub invariant-loop-place : goal.invariant-loop-place
invariant-loop-place l = l.entries.items ≡ map (implied_by l.kept l.past) (take l.place-index l.claims)
