-- What a receive that gave nothing was, what a client is told of what is sent to it, and what a clock tells.
use Rattle.std.specs.Prelude.{◌≡◌, ◌==◌, ℕ, ◌+◌, ◌-◌, Bool, true, false, List, Option, None, Some, max, min, if◌then◌else◌}
use Rattle.std.specs.declared.io.ErrorKind.{ErrorKind}
use Rattle.std.specs.declared.io.ErrorKind.TheVariants.{Interrupted, TimedOut, WouldBlock}
use Rattle.addresses.specs.declared.directory.Naming.{Naming}
use Rattle.addresses.specs.declared.directory.Naming.TheVariants.{Given, Own, Changing}
use Rattle.seats.specs.Exchange.{IsToldAs}

-- nothing came in time, or a signal came meanwhile: no fault
abbrev pub is_silence : ErrorKind → Bool
is_silence WouldBlock = true
is_silence TimedOut = true
is_silence Interrupted = true
is_silence kind = false

-- A client is sent this of what was given out for it: that, or the same under its own names. Nothing is sent while these are being changed.
abbrev pub IsToldUnder : Naming → List ℕ → List ℕ → Type 0
IsToldUnder Given before after = after ≡ before
IsToldUnder (Own names) before after = IsToldAs names before after
IsToldUnder Changing before after = ⊥

-- ---- what a clock tells

-- of what goes by until this, since it told something last, no more than so many milliseconds count; all of it if that is 0
abbrev pub reached : ℕ → ℕ → ℕ → ℕ
reached stall_ms told now = if stall_ms == 0 then now else min now (told + stall_ms)

-- A clock tells what went by, but for what it didn't live before, and never less than it told before.
abbrev pub later_moment : ℕ → ℕ → ℕ → Option ℕ → ℕ
later_moment stall_ms told stalled None = told
later_moment stall_ms told stalled (Some elapsed) =
    max told (reached stall_ms told (elapsed - stalled))

-- what it didn't live of what went by, once it told this
abbrev pub stalled_after : ℕ → ℕ → Option ℕ → ℕ
stalled_after told stalled None = stalled
stalled_after told stalled (Some elapsed) = max stalled (elapsed - told)

-- A clock that told this last, and hadn't lived so many milliseconds, looks at what went by if the system says so: then it tells that, and hasn't
-- lived so many.
pub record Looks (stall_ms told stalled later more : ℕ) : Type 0 where
  pub elapsed : Option ℕ
  pub tells : later ≡ later_moment stall_ms told stalled elapsed
  pub stalls : more ≡ stalled_after later stalled elapsed
