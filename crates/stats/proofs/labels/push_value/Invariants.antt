use Rattle.std.proofs.Common.{◌≡◌, ◌++◌, take}
use Rattle.std.specs.String.{string_bytes}
use Rattle.stats.specs.Labels.{escaped}
use Rattle.stats.proofs.labels.push_value.Given as goal

abbrev pub invariant-loop-byte : goal.invariant-loop-byte
invariant-loop-byte l = string_bytes l.labels ≡ string_bytes l.fn.labels ++ escaped (take l.byte-index l.value)
