-- Who is present and what is live, by places in a history.
use Rattle.std.specs.Prelude.{◌≡◌, ℕ, ◌+◌, ◌<◌, ◌≤◌, ◌⊎◌, true, List, take, fold, slice_get, Some}
use Rattle.tmmbr_tuple.specs.declared.tuple.Tuple.{Tuple}
use Rattle.desk.specs.declared.call.Call.{Call}
use Rattle.desk.specs.declared.call.Call.TheVariants.{Stay, Time}
use Rattle.desk.specs.declared.call.Change.{Change}
use Rattle.desk.specs.declared.call.Change.TheVariants.{Arrive, Request as Ask, Depart}
use Rattle.desk.specs.declared.call.Signal.TheVariants.{Expire}
use Rattle.desk.specs.declared.call.Entry.{Entry}
use Rattle.desk.specs.declared.base.Base.{Base}
use Rattle.desk.specs.Call.{moment_after, is_done}
use Rattle.desk.specs.Presence.{stay_in, asked_in}

-- at this place stands an entry of this kind
pub record HasEntryAt (P : Entry → Type 0) (entries : List Entry) (place : ℕ) : Type 0 where
  pub entry : Entry
  pub there : slice_get entries place ≡ Some entry
  pub is : P entry

-- a call of this kind, which was done
abbrev pub WasDone : (Call → Type 0) → Entry → Type 0
WasDone P e = (is_done e.answer ≡ true) × P e.call

-- an owner's change of this kind
abbrev pub IsOf : ℕ → (ℕ → Change → Type 0) → Call → Type 0
IsOf owner P (Stay o stay change) = (o.0 ≡ owner) × P stay change
IsOf owner P (Time moment signal) = ⊥

-- an arrive of the owner with this stay
abbrev pub IsArriveOf : ℕ → ℕ → Call → Type 0
IsArriveOf owner stay = IsOf owner (λ s change. (s ≡ stay) × (change ≡ Arrive))

-- a request of the owner for this tuple
abbrev pub IsRequestOf : ℕ → Tuple → Call → Type 0
IsRequestOf owner tuple = IsOf owner (λ s change. change ≡ Ask tuple)

-- a depart of the owner
abbrev pub IsDepartOf : ℕ → Call → Type 0
IsDepartOf owner = IsOf owner (λ s change. change ≡ Depart)

abbrev pub IsExpire : Call → Type 0
IsExpire (Stay owner stay change) = ⊥
IsExpire (Time moment signal) = signal ≡ Expire

-- ---- presence

-- The owner is present with this stay, and its calls from this place on count: the place after its arrive, or the first place where
-- it is present in the base. No depart of it was done from there on.
pub record IsPresentFrom (base : Base) (entries : List Entry) (owner stay from : ℕ) : Type 0 where
  pub began : ((from ≡ 0) × (stay_in base.present.items owner ≡ stay))
      ⊎ ((arrived : ℕ) × (from ≡ arrived + 1)
      × HasEntryAt (WasDone (IsArriveOf owner stay)) entries arrived)
  pub stayed : (later : ℕ) → from ≤ later → ¬ HasEntryAt (WasDone (IsDepartOf owner)) entries later

-- the owner is present with this stay
abbrev pub IsPresent : Base → List Entry → ℕ → ℕ → Type 0
IsPresent base entries owner stay = (from : ℕ) × IsPresentFrom base entries owner stay from

-- ---- live requests

-- the greatest moment up to this place; that of the base counts
abbrev pub greatest_until : Base → List Entry → ℕ → ℕ
greatest_until base entries place =
    fold (λ m e. moment_after m e.call) base.greatest (take (place + 1) entries)

-- an expire at this place takes what was asked at this moment: at least request_ms ago, by the greatest moments
pub record TakesAt (request_ms : ℕ) (base : Base) (entries : List Entry)
    (stamp place : ℕ) : Type 0 where
  pub expire : HasEntryAt (WasDone IsExpire) entries place
  pub some_limit : 1 ≤ request_ms
  pub old : stamp + request_ms ≤ greatest_until base entries place

-- the last request of the owner that was done from this place on asks for this tuple, and no expire after it took it
pub record IsLastRequestFrom (request_ms : ℕ) (base : Base) (entries : List Entry) (owner from : ℕ)
    (tuple : Tuple) : Type 0 where
  pub asked : ℕ
  pub counts : from ≤ asked
  pub request : HasEntryAt (WasDone (IsRequestOf owner tuple)) entries asked
  pub last : (later : ℕ) (other : Tuple) → asked < later
      → ¬ HasEntryAt (WasDone (IsRequestOf owner other)) entries later
  pub untaken : (later : ℕ) → asked < later
      → ¬ TakesAt request_ms base entries (greatest_until base entries asked) later

-- the owner asks for this tuple in the base, no request of it was done since, and no expire took it
pub record IsRequestOfBase (request_ms : ℕ) (base : Base) (entries : List Entry) (owner : ℕ)
    (tuple : Tuple) : Type 0 where
  pub stamp : ℕ
  pub there : asked_in base.present.items owner ≡ Some (record { tuple = tuple; stamp = stamp })
  pub last : (later : ℕ) (other : Tuple)
      → ¬ HasEntryAt (WasDone (IsRequestOf owner other)) entries later
  pub untaken : (later : ℕ) → ¬ TakesAt request_ms base entries stamp later

-- what an owner asks for, whose calls count from this place on: the last request done since, or the base's, if no expire took it
abbrev pub IsLiveFrom : ℕ → Base → List Entry → ℕ → ℕ → Tuple → Type 0
IsLiveFrom request_ms base entries owner from tuple =
    IsLastRequestFrom request_ms base entries owner from tuple
    ⊎ ((from ≡ 0) × IsRequestOfBase request_ms base entries owner tuple)
