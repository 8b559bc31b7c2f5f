use Rattle.std.proofs.Common.{◌≡◌, drop}
use Rattle.request_text.specs.CheckFile.{place_for}
use Rattle.cli.proofs.checking.place_for.Given as goal

abbrev pub invariant-loop-asker : goal.invariant-loop-asker
invariant-loop-asker l = place_for l.kept l.past l.owner ≡ place_for (drop l.asker-index l.kept) l.past l.owner
