-- What a front takes in, whatever the machine or a driver has beside it.
use Rattle.std.specs.Prelude.{List, Result, OnOk}
use Rattle.std.specs.declared.alloc.AllocError.{AllocError}
use Rattle.events.specs.declared.output.Out.{Out}
use Rattle.core_steps.specs.declared.front.Front.{Front}
use Rattle.core_steps.specs.Happening.{Happening}
use Rattle.core_steps.specs.Machine.{Rest, IsIdle, whole}
use Rattle.core_steps.specs.Run.{Leaves}
use Rattle.core_steps.specs.World.{WorldState}

-- Whatever stands beside the front, as long as nothing waits there: unless memory ran out, something was done that is allowed in the world
-- of both, and it leads to the world of the front as it is now and of the same beside it.
abbrev pub TakesIn : Front → (WorldState → Happening → Type 0) → Front → List Out → List Out
    → Result (Unit {0}) AllocError → Type 0
TakesIn old allows new outs all result =
    (rest : Rest) → IsIdle rest
    → OnOk result (Leaves (allows (whole old rest)) (whole old rest) outs (whole new rest) all)
