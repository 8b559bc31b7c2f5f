-- Bytes that many hold.
use Rattle.std.specs.Prelude.{ℕ, List, [], Option, None, Some}
use Rattle.std.specs.Global.{Vec, Global}
use Rattle.std.specs.declared.sync.Arc.{Arc}

-- the bytes that holders share; none if nothing is held
abbrev pub shared_bytes : Option (Arc (Vec ℕ) Global) → List ℕ
shared_bytes None = []
shared_bytes (Some bytes) = bytes.value.items
