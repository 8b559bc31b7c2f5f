-- What a handle holds that doesn't hold nothing, and the type of a struct of two fields.
use lib.Dec.{T}
use Rattle.std.specs.Prelude.{◌≡◌, ◌≢◌, Bool, true, false, Option, Some, None}
use Rattle.std.proofs.Common.{refl}
use mathlib.Core.Bool.{◌&&◌}

pub some_held : {A : Type 0} (held : Option A) → held ≢ None → (c : A) × (held ≡ Some c)
some_held None is = absurd (is refl)
some_held (Some c) is = (c, refl)

pub both_tt : (x y : Bool) → T x → T y → T (x && (y && true))
both_tt true true s t = tt
both_tt true false s t = absurd t
both_tt false y s t = absurd s
