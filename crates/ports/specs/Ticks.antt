-- When a tick is due.
use Rattle.std.specs.Prelude.{ℕ, ◌+◌, nat_le, Bool, true, Option, None, Some, if◌then◌else◌}

-- how far the moment rises between ticks, in milliseconds, and the moment of the last one
pub record TicksState : Type 0 where
  pub step_ms : ℕ
  pub last : Option ℕ

-- no tick was made yet
abbrev pub new_ticks : ℕ → TicksState
new_ticks step_ms = record { step_ms = step_ms; last = None }

-- a tick is due if none was made yet, and if the moment rose by the step since the last one
abbrev pub is_due_after : ℕ → Option ℕ → ℕ → Bool
is_due_after step_ms None moment = true
is_due_after step_ms (Some last) moment = nat_le (last + step_ms) moment

-- whether a tick is due at this moment
abbrev pub is_due : TicksState → ℕ → Bool
is_due ticks moment = is_due_after ticks.step_ms ticks.last moment

-- a tick that is due is made
abbrev pub ticks_after : TicksState → ℕ → TicksState
ticks_after ticks moment = record {
  step_ms = ticks.step_ms;
  last = if is_due ticks moment then Some moment else ticks.last;
}
