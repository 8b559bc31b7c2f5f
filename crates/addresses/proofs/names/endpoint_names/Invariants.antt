use Rattle.std.proofs.Common.{◌≡◌, ◌++◌, drop, map}
use Rattle.std.specs.List.{enumerate_from}
use Rattle.std.specs.String.{string_bytes}
use Rattle.addresses.specs.Names.{endpoint_names, numbered_name}
use Rattle.addresses.proofs.names.endpoint_names.Given as goal

abbrev pub invariant-loop-number : goal.invariant-loop-number
invariant-loop-number l = map string_bytes l.names.items ++ map numbered_name (enumerate_from l.number (drop l.number l.texts)) ≡ endpoint_names l.texts
