use Rattle.std.proofs.Common.{◌≡◌, ◌++◌, drop}
use Rattle.settings_toml.specs.Begun.{begun_legs}
use Rattle.settings_toml.proofs.begun.begun_legs.Given as goal

abbrev pub invariant-loop-k : goal.invariant-loop-k
invariant-loop-k l =
    l.begun.items ++ begun_legs l.numbers l.k (drop l.k l.legs) ≡ begun_legs l.numbers 0 l.legs
