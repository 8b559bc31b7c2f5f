-- When PLIs are sent upstream, by places in a history (RFC 4585, section 6.3.1; the gap is this project's own).
use Rattle.std.specs.Prelude.{◌≡◌, ℕ, ◌+◌, ◌<◌, ◌≤◌, ◌↔◌, ◌⊎◌, true, List, length, map, IfSome}
use Rattle.desk.specs.declared.call.Call.{Call}
use Rattle.desk.specs.declared.call.Call.TheVariants.{Stay, Time}
use Rattle.desk.specs.declared.call.Entry.{Entry}
use Rattle.desk.specs.declared.base.Base.{Base}
use Rattle.desk.specs.Call.{can_send, wishes, went_up}
use Rattle.desk.specs.Places.{HasEntryAt, greatest_until}

-- a PLI was sent upstream at this place
abbrev pub WentUpAt : List Entry → ℕ → Type 0
WentUpAt entries place = HasEntryAt (λ e. went_up e ≡ true) entries place

-- the call shows this moment
abbrev pub IsAt : ℕ → Call → Type 0
IsAt moment (Stay owner stay change) = ⊥
IsAt moment (Time shown signal) = shown ≡ moment

-- it is the greatest moment up to this place, that of the base included
pub record IsGreatestUntil (base : Base) (entries : List Entry) (place moment : ℕ) : Type 0 where
  pub base_bound : base.greatest ≤ moment
  pub bound : (earlier shown : ℕ) → earlier ≤ place
      → HasEntryAt (λ e. IsAt shown e.call) entries earlier → shown ≤ moment
  pub reached : (moment ≡ base.greatest)
      ⊎ ((earlier : ℕ) × (earlier ≤ place) × HasEntryAt (λ e. IsAt moment e.call) entries earlier)

-- a wish for a picture at this place or before it, with no PLI sent upstream since
pub record IsUnanswered (entries : List Entry) (place wish : ℕ) : Type 0 where
  pub not_after : wish ≤ place
  pub wished : HasEntryAt (λ e. wishes e.call ≡ true) entries wish
  pub unanswered : (between : ℕ) → wish ≤ between → between < place → ¬ WentUpAt entries between

-- no PLI was sent upstream at any place before this one
abbrev pub NoneUpBefore : List Entry → ℕ → Type 0
NoneUpBefore entries place = (before : ℕ) → before < place → ¬ WentUpAt entries before

-- a wish before the base that the base left unanswered, with no PLI sent upstream since
abbrev pub IsWantedSinceBase : Base → List Entry → ℕ → Type 0
IsWantedSinceBase base entries place = (base.wanted ≡ true) × NoneUpBefore entries place

-- the last place before this one at which a PLI was sent upstream
pub record IsLastUpBefore (entries : List Entry) (place last : ℕ) : Type 0 where
  pub before : last < place
  pub went_up : WentUpAt entries last
  pub none_since : (between : ℕ) → last < between → between < place → ¬ WentUpAt entries between

-- A PLI is due at this `pli` or `tick` (RFC 4585, section 6.3.1): a picture is wanted, and the last PLI was sent upstream at least the
-- gap ago. That one may be of the base.
pub record IsDueAt (gap : ℕ) (base : Base) (entries : List Entry) (place : ℕ) : Type 0 where
  pub can_send : HasEntryAt (λ e. can_send e.call ≡ true) entries place
  pub wanted : ((wish : ℕ) × IsUnanswered entries place wish) ⊎ IsWantedSinceBase base entries place
  pub gapped : (last : ℕ) → IsLastUpBefore entries place last
      → greatest_until base entries last + gap ≤ greatest_until base entries place
  pub gapped_since_base : NoneUpBefore entries place
      → IfSome base.last_up (λ up. up + gap ≤ greatest_until base entries place)

-- PLIs are sent upstream just when they are due (RFC 4585, section 6.3.1)
abbrev pub IsPliSchedule : ℕ → Base → List Entry → Type 0
IsPliSchedule gap base entries = (place : ℕ) → place < length entries
    → WentUpAt entries place ↔ IsDueAt gap base entries place

-- the calls, without their answers
abbrev pub calls_in : List Entry → List Call
calls_in entries = map (λ (e : Entry). e.call) entries
