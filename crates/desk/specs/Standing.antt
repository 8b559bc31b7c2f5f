-- What a contract sees of a `Standing`.
use Rattle.std.specs.Prelude.{◌≡◌, ℕ, ◌+◌, ◌-◌}
use Rattle.bounding_set.specs.State.{State, AnnouncesSmallest}
use Rattle.desk.specs.declared.call.Call.{Call}
use Rattle.desk.specs.declared.call.Call.TheVariants.{Stay, Time}
use Rattle.desk.specs.declared.call.Change.{Change}
use Rattle.desk.specs.declared.call.Change.TheVariants.{Arrive, Request, Depart}
use Rattle.desk.specs.declared.base.Base.{Base}
use Rattle.desk.specs.Presence.{live_requests}
use Rattle.desk.specs.Trace.{IsBase}

-- what the calls so far come to, and the live requests with what is announced for them
pub record Stand : Type 0 where
  pub whole : Base
  pub bounds : State

-- what always holds of them: the rows are the live requests of those present
pub record IsStand (whole : Base) (bounds : State) : Type 0 where
  pub base : IsBase whole
  pub live : bounds.rows ≡ live_requests whole.present.items
  pub announced : AnnouncesSmallest bounds

-- how many are present after a call that isn't refused, of so many before it
abbrev pub count_changed : Change → ℕ → ℕ
count_changed Arrive count = count + 1
count_changed (Request tuple) count = count
count_changed Depart count = count - 1

abbrev pub count_by : Call → ℕ → ℕ
count_by (Stay owner stay change) count = count_changed change count
count_by (Time moment signal) count = count

abbrev pub IsDepart : Call → Type 0
IsDepart (Stay owner stay change) = change ≡ Depart
IsDepart (Time moment signal) = ⊥
