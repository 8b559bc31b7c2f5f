-- What was heard, and what is live once nothing waits.
use Rattle.std.specs.Prelude.{◌==◌, ◌≡◌, ◌≢◌, ◌⊎◌, ℕ, ◌<◌, ◌&&◌, List, [], ◌∷◌, ◌++◌, slice_get, Option, None, Some, Result, Ok, Err, MatchBool, if◌then◌else◌}
use Rattle.std.specs.List.{last_or, flat_map}
use Rattle.tmmbr_tuple.specs.declared.tuple.Tuple.{Tuple}
use Rattle.tmmbr_tuple.specs.Tuple.{word_of}
use Rattle.bounding_set.specs.Rows.{tuple_of}
use Rattle.settings.specs.declared.fault.RoomFault.{RoomFault}
use Rattle.settings.specs.declared.settings.LegSettings.{LegSettings}
use Rattle.settings.specs.Settings.{Configuration, IsInRange}
use Rattle.members.specs.Room.{RoomState, Step}
use Rattle.members.specs.Calls.{step_of}
use Rattle.desk.specs.declared.call.Entry.{Entry}
use Rattle.desk.specs.Places.{HasEntryAt, WasDone, IsRequestOf, TakesAt, greatest_until}
use Rattle.desk.specs.State.{DeskState}
use Rattle.desk.specs.Trace.{empty_base}
use Rattle.events.specs.declared.event.Event.{Event}
use Rattle.events.specs.declared.event.Event.TheVariants.{Hear, Tick, Select, Ingress, Work}
use Rattle.datagram.specs.declared.reading.Ask.{Ask}
use Rattle.datagram.specs.declared.reading.Ask.TheVariants.{Rate, Resend as Again, Picture}
use Rattle.events.specs.declared.output.Refusal.{Refusal}
use Rattle.desk_calls.specs.DeskCalls.{source_of}
use Rattle.core_steps.specs.Happening.{Happening, world_after}
use Rattle.datagram.specs.Reads.{asks_of}
use Rattle.core_steps.specs.Hearing.{room_call, leg_stay}
use Rattle.datagram.specs.Saying.{Said, Says}
use Rattle.settings.specs.Links.{LinkTable, leg_to, table_of}
use Rattle.core_steps.specs.Opening.{IsNewWorld}
use Rattle.core_steps.specs.Rule.{is_busy}
use Rattle.core_steps.specs.Run.{Runs, worlds_after}
use Rattle.core_steps.specs.Traces.{IsRequestIn, calls_of, entries_at}
use Rattle.core_steps.specs.Waits.{waiting_in}
use Rattle.core_steps.specs.World.{WorldState}

-- ---- what was heard

-- A TMMBR entry that was heard (RFC 5104, section 4.2.1): the leg that it asks about, the stay of the leg that stood, and the
-- word that it asks for.
pub record HeardRate : Type 0 where
  pub leg : ℕ
  pub stay : ℕ
  pub word : ℕ

-- it is heard of a leg of which a stay stands
abbrev pub rate_on : RoomState → ℕ → Option ℕ → List HeardRate
rate_on r word None = []
rate_on r word (Some leg) = if leg_stay r leg == 0 then []
    else record { leg = leg; stay = leg_stay r leg; word = word } ∷ []

-- an entry asks about the leg on which its endpoint is sent the source that it names
abbrev pub rate_of : LinkTable → RoomState → ℕ → Ask → List HeardRate
rate_of t r endpoint (Rate source word) = rate_on r word (leg_to t endpoint source.0)
rate_of t r endpoint (Again source nack) = []
rate_of t r endpoint (Picture source) = []

-- the entries of a datagram are heard, in order, in the room that let it in
abbrev pub rates_in : LinkTable → ℕ → Said → Result Step RoomFault → List HeardRate
rates_in t endpoint said (Err fault) = []
rates_in t endpoint said (Ok step) = flat_map (rate_of t step.room endpoint) (asks_of said)

abbrev pub rates_said : WorldState → ℕ → ℕ → Result Said Refusal → List HeardRate
rates_said w moment endpoint (Err refusal) = []
rates_said w moment endpoint (Ok said) =
    rates_in w.setup.table endpoint said (step_of w.room (room_call moment endpoint said))

-- what is heard of a datagram is what it says
pub record IsHeardOf (w : WorldState) (moment endpoint : ℕ) (bytes : List ℕ)
    (rates : List HeardRate) : Type 0 where
  pub said : Result Said Refusal
  pub says : Says (source_of w.setup.table endpoint).0 bytes said
  pub is : rates ≡ rates_said w moment endpoint said

-- what is heard at an event: nothing of a datagram that isn't taken in
abbrev pub HearsRates : WorldState → Event → List HeardRate → Type 0
HearsRates w (Hear moment endpoint bytes) rates =
    MatchBool (is_busy w) (rates ≡ []) (IsHeardOf w moment endpoint bytes rates)
HearsRates w (Tick moment) rates = rates ≡ []
HearsRates w (Select moment leg on) rates = rates ≡ []
HearsRates w Ingress rates = rates ≡ []
HearsRates w (Work k) rates = rates ≡ []

-- what is heard in a run, in order: each TMMBR entry of a datagram that is taken in, for a leg in which a stay
-- stands (RFC 5104, section 4.2.1)
abbrev pub HeardIn : WorldState → List Event → List Happening → List HeardRate → Type 0
HeardIn w [] history rates = rates ≡ []
HeardIn w (e ∷ events) [] rates = rates ≡ []
HeardIn w (e ∷ events) (h ∷ history) rates =
    (first : List HeardRate) × (others : List HeardRate) × HearsRates w e first
    × HeardIn (world_after w h) events history others × (rates ≡ first ++ others)

-- the words that were heard in this stay of a leg, in order
abbrev pub word_heard : ℕ → ℕ → HeardRate → List ℕ
word_heard leg stay r = if (r.leg == leg && r.stay == stay) then r.word ∷ [] else []

abbrev pub words_heard : ℕ → ℕ → List HeardRate → List ℕ
words_heard leg stay rates = flat_map (word_heard leg stay) rates

-- the last word that was heard in this stay of a leg (RFC 5104, section 4.2.1)
abbrev pub last_heard_word : ℕ → ℕ → List HeardRate → Option ℕ
last_heard_word leg stay rates = last_or None (words_heard leg stay rates)

-- ---- when nothing waits

-- nothing waits, no job was given up, and no history was full (RFC 5104, section 4.2)
pub record IsQuiet (history : List Happening) (w : WorldState) : Type 0 where
  pub waits : waiting_in w ≡ record { tasks = 0; jobs = 0; hands = 0 }
  pub lost : w.lost ≡ 0
  pub recorded : flat_map (λ (h : Happening). h.unrecorded) history ≡ []

-- ---- what is live then

-- The last request of the owner that was done was made in this stay and asks for this word, and an expire after it took it.
pub record ExpireTook (request_ms : ℕ) (entries : List Entry) (owner stay word : ℕ) : Type 0 where
  pub tuple : Tuple
  pub asks : word_of tuple ≡ word
  pub asked : ℕ
  pub request : HasEntryAt (WasDone (IsRequestIn owner stay tuple)) entries asked
  pub last : (later : ℕ) (other : Tuple) → asked < later
      → ¬ HasEntryAt (WasDone (IsRequestOf owner other)) entries later
  pub place : ℕ
  pub behind : asked < place
  pub takes : TakesAt request_ms empty_base entries (greatest_until empty_base entries asked) place

-- the request of this owner is the word that was heard last of a leg of the publisher to it, in the stay that stands
pub record IsLastHeard (c : Configuration) (rates : List HeardRate) (w : WorldState)
    (publisher owner : ℕ) (tuple : Tuple) : Type 0 where
  pub number : ℕ
  pub leg : LegSettings
  pub there : slice_get c.legs number ≡ Some leg
  pub from : leg.publisher ≡ publisher
  pub to : (source_of (table_of c) leg.subscriber).0 ≡ owner
  pub stands : leg_stay w.room number ≢ 0
  pub heard : last_heard_word number (leg_stay w.room number) rates ≡ Some (word_of tuple)

-- the owner asks for this word, or an expire took it that was asked for in this stay
abbrev pub IsLiveOrTaken : ℕ → List Entry → DeskState → ℕ → ℕ → ℕ → Type 0
IsLiveOrTaken request_ms entries d owner stay word =
    ((tuple : Tuple) × (word_of tuple ≡ word) × (tuple_of d.bounds.rows owner ≡ Some tuple))
    ⊎ ExpireTook request_ms entries owner stay word

-- Each live request is the word heard last in the stay that stands (RFC 5104, section 4.2). If there is such a word, it is live,
-- unless it was asked for in that stay and an expire took it. If no stay stands, nothing is live.
pub record LastHeardIsLive (c : Configuration) (history : List Happening) (rates : List HeardRate)
    (w : WorldState) : Type 0 where
  pub live : (publisher owner : ℕ) (d : DeskState) (tuple : Tuple)
      → slice_get w.desks publisher ≡ Some d
      → tuple_of d.bounds.rows owner ≡ Some tuple → IsLastHeard c rates w publisher owner tuple
  pub heard : (number word : ℕ) (leg : LegSettings) (d : DeskState)
      → slice_get c.legs number ≡ Some leg
      → slice_get w.desks leg.publisher ≡ Some d → leg_stay w.room number ≢ 0
      → last_heard_word number (leg_stay w.room number) rates ≡ Some word
      → IsLiveOrTaken c.request_ms (entries_at leg.publisher (calls_of history)) d
      (source_of (table_of c) leg.subscriber).0 (leg_stay w.room number) word
  pub none : (number : ℕ) (leg : LegSettings) (d : DeskState) → slice_get c.legs number ≡ Some leg
      → slice_get w.desks leg.publisher ≡ Some d → leg_stay w.room number ≡ 0
      → tuple_of d.bounds.rows (source_of (table_of c) leg.subscriber).0 ≡ None

-- After a run from a new world: these events have a history that leads on to the new world, with what was heard in the whole
-- run, and if that is quiet, what was heard last is live.
pub record LeavesLastHeardLive (c : Configuration) (start : WorldState) (before : List Event)
    (past : List Happening) (events : List Event) (old new : WorldState) : Type 0 where
  pub next : List Happening
  pub runs : Runs old events next
  pub leads : new ≡ worlds_after old next
  pub rates : List HeardRate
  pub heard : HeardIn start (before ++ events) (past ++ next) rates
  pub live : IsQuiet (past ++ next) new → LastHeardIsLive c (past ++ next) rates new

-- The quiet law: after every run from a new world of settings, in however many calls, the words heard last are live if the run
-- is quiet (RFC 5104, section 4.2).
abbrev pub ObeysQuietLaw : List Event → WorldState → WorldState → Type 0
ObeysQuietLaw events old new =
    (c : Configuration) (start : WorldState) (before : List Event) (past : List Happening)
    → IsInRange c → IsNewWorld c start
    → Runs start before past → old ≡ worlds_after start past
    → LeavesLastHeardLive c start before past events old new
