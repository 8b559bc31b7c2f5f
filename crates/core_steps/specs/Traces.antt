-- The calls of each desk over a run.
use Rattle.std.specs.Prelude.{◌≡◌, ◌≢◌, ◌==◌, ℕ, ◌+◌, List, [], ◌∷◌, ◌++◌, All, map, slice_get, Some, if◌then◌else◌}
use Rattle.std.specs.List.{flat_map}
use Rattle.settings.specs.Settings.{Configuration}
use Rattle.bounding_set.specs.State.{AnnouncesSmallest}
use Rattle.tmmbr_tuple.specs.declared.tuple.Tuple.{Tuple}
use Rattle.desk.specs.declared.call.Call.{Call}
use Rattle.desk.specs.declared.call.Change.TheVariants.{Request}
use Rattle.desk.specs.declared.call.Entry.{Entry}
use Rattle.desk.specs.Call.{HasStay}
use Rattle.desk.specs.Places.{IsOf}
use Rattle.desk.specs.Presence.{stay_in}
use Rattle.desk.specs.Trace.{empty_base, live_after}
use Rattle.desk.specs.History.{IsLegalHistory, StandsForEntries}
use Rattle.desk.specs.State.{DeskState, call_count, now_of}
use Rattle.core_steps.specs.Happening.{RecordedCall, Happening}

-- this holds of the publisher's desk, which is there
pub record AtDesk (P : DeskState → Type 0) (desks : List DeskState) (p : ℕ) : Type 0 where
  pub desk : DeskState
  pub there : slice_get desks p ≡ Some desk
  pub is : P desk

-- ---- the recorded calls of a publisher's desk, in order

abbrev pub of_desk : ℕ → RecordedCall → List RecordedCall
of_desk p a = if a.publisher == p then a ∷ [] else []

abbrev pub recorded_in : ℕ → Happening → List RecordedCall
recorded_in p h = flat_map (of_desk p) h.asked

-- over a run: the recorded calls of this publisher's desk, in order
abbrev pub recorded_at : ℕ → List Happening → List RecordedCall
recorded_at p history = flat_map (recorded_in p) history

-- a call with its answer, as a desk lists it
abbrev pub recorded_entry : RecordedCall → Entry
recorded_entry a = record { call = a.call; answer = a.answer }

-- all recorded calls of a history, in order
abbrev pub calls_of : List Happening → List RecordedCall
calls_of history = flat_map (λ (h : Happening). h.asked) history

abbrev pub entry_at : ℕ → RecordedCall → List Entry
entry_at p a = if a.publisher == p then recorded_entry a ∷ [] else []

-- those of one publisher's desk, as it lists them
abbrev pub entries_at : ℕ → List RecordedCall → List Entry
entries_at p calls = flat_map (entry_at p) calls

-- ---- what they make of a desk

-- calls that are numbered one after another, from this number on
abbrev pub AreNumberedFrom : ℕ → List RecordedCall → Type 0
AreNumberedFrom n [] = Unit {0}
AreNumberedFrom n (a ∷ calls) = (a.number ≡ n) × AreNumberedFrom (n + 1) calls

-- The desk recorded these calls one after another. Each has the count of the desk's calls before it as its number. Base and
-- history stand for the former ones and the calls with their answers, which are those that are owed (RFC 5104, section 4.2).
pub record HasRecorded (old : DeskState) (calls : List RecordedCall)
    (new : DeskState) : Type 0 where
  pub numbered : AreNumberedFrom (call_count old) calls
  pub stands : StandsForEntries old.request_ms old.base
      (old.history ++ map recorded_entry calls) new.base new.history
  pub legal : IsLegalHistory old.gap old.request_ms old.base
      (old.history ++ map recorded_entry calls)
  pub gap : new.gap ≡ old.gap
  pub request_ms : new.request_ms ≡ old.request_ms

-- These are all calls of the desk with their answers, each the one that is owed, and name stays from 1 on. Its rows are the
-- requests that they leave live: of each owner that is present the last one since it arrived, unless it grew too old. The
-- announced set is the smallest for them, by its certificate (RFC 5104, section 4.2).
pub record AnnouncesAfter (c : Configuration) (entries : List Entry) (d : DeskState) : Type 0 where
  pub stays : All (λ e. HasStay e.call) entries
  pub legal : IsLegalHistory c.pli_gap_ms c.request_ms empty_base entries
  pub live : d.bounds.rows ≡ live_after c.request_ms empty_base entries
  pub announced : AnnouncesSmallest d.bounds

-- a request of the owner in this stay for this tuple
abbrev pub IsRequestIn : ℕ → ℕ → Tuple → Call → Type 0
IsRequestIn owner stay tuple = IsOf owner (λ s change. (s ≡ stay) × (change ≡ Request tuple))

-- the owner isn't present with this stay
abbrev pub HasLeft : ℕ → ℕ → DeskState → Type 0
HasLeft owner stay d = stay_in (now_of d).present.items owner ≢ stay
