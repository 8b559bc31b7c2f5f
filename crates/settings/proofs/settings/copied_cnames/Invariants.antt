use Rattle.std.proofs.Common.{◌≡◌, ◌++◌, drop}
use Rattle.settings.specs.Settings.{said_names, additions_of}
use Rattle.settings.proofs.settings.copied_cnames.Given as goal

abbrev pub invariant-loop-k : goal.invariant-loop-k
invariant-loop-k l =
    l.cnames.items ++ said_names l.parts (additions_of l.extras) l.k (drop l.k l.parts.endpoints.items)
    ≡ said_names l.parts (additions_of l.extras) 0 l.parts.endpoints.items
