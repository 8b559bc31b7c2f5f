-- What a conference has served: events from outside, each with all that follows from it, and the datagrams that it gave out.
use Rattle.std.specs.Prelude.{◌≡◌, ◌≢◌, ℕ, Bool, true, false, List, [], ◌∷◌, ◌++◌, drop, Ok, Err}
use Rattle.settings.specs.Settings.{Configuration, IsInRange}
use Rattle.settings_toml.specs.declared.settings_file.FileSettings.{FileSettings}
use Rattle.settings_toml.specs.SettingsFaults.{TextGives}
use Rattle.events.specs.declared.event.Event.{Event}
use Rattle.events.specs.declared.event.Event.TheVariants.{Hear}
use Rattle.events.specs.declared.output.Out.{Out}
use Rattle.events.specs.declared.output.Out.TheVariants.{Send, Refused, Lost, Skip, Miss, Idle}
use Rattle.events.specs.declared.output.Out.TheVariants as out
use Rattle.desk_calls.specs.DeskCalls.{source_of}
use Rattle.ports.specs.declared.datagram.Datagram.{Datagram}
use Rattle.ports.specs.Outside.{datagrams_of}
use Rattle.core_steps.specs.Opening.{IsNewWorld}
use Rattle.core_steps.specs.OverRuns.{Announces, EndsStays}
use Rattle.core_steps.specs.Run.{Stays}
use Rattle.core_steps.specs.World.{WorldState}
use Rattle.one_thread.specs.Driver.{AfterEach, LeavesLastHeard}
use Rattle.one_thread.specs.Driving.{Drives, IsIdle}
use Rattle.conference.specs.declared.delivery.Delivery.{Delivery}
use Rattle.conference.specs.declared.fault.OpenFault.{OpenFault}
use Rattle.conference.specs.declared.fault.OpenFault.TheVariants as open_fault
use Rattle.conference.specs.declared.fault.EventFault.{EventFault}
use Rattle.conference.specs.declared.fault.EventFault.TheVariants.{Busy, NoMemory, Unsettled}
use Rattle.conference.specs.Limited.{EntryLimit, IsHeardFor, limit_by, passing}

-- the machine's world, the datagrams that weren't taken yet, oldest first, and how many entries of a datagram
-- `hear_limited` hears (RFC 7667, section 3.7)
pub record ConferenceState : Type 0 where
  pub world : WorldState
  pub waiting : List Datagram
  pub limit : EntryLimit

-- of this world, which gave this out, of which the first so many are done with
abbrev pub conference_state : WorldState → List Out → ℕ → EntryLimit → ConferenceState
conference_state w outs done limit =
    record { world = w; waiting = datagrams_of (drop done outs); limit = limit }

abbrev pub datagram_of : Delivery → Datagram
datagram_of d = record { endpoint = d.endpoint; bytes = d.bytes.now }

abbrev pub is_datagram : Out → Bool
is_datagram (Send endpoint bytes) = true
is_datagram (Refused refusal) = false
is_datagram out.Busy = false
is_datagram (Lost worker) = false
is_datagram (Skip leg skip) = false
is_datagram (Miss leg seq) = false
is_datagram Idle = false

-- ---- what a call does

-- These events from outside were done, each of which found nothing waiting; no job was given up; and the datagrams that were given
-- out stand after those that waited (RFC 7667, section 3.7).
pub record Serves (outside : List Event) (old new : ConferenceState) : Type 0 where
  pub outs : List Out
  pub drives : Drives outside old.world [] new.world outs
  pub waiting : new.waiting ≡ old.waiting ++ datagrams_of outs

-- Something waited, and nothing was done; there was no memory, and nothing was done; or the events were done, and the rest of what
-- follows waits.
abbrev pub LeavesEvents : List Event → ConferenceState → ConferenceState → EventFault → Type 0
LeavesEvents outside old new Busy = (¬ IsIdle old.world) × (new ≡ old)
LeavesEvents outside old new NoMemory = new ≡ old
LeavesEvents outside old new Unsettled = Serves outside old new

-- A datagram was heard up to the limit, as an event from outside, and the entries beyond are counted. With no limit it is the datagram itself.
pub record HearsLimited (moment endpoint : ℕ) (bytes : List ℕ) (old new : ConferenceState)
    : Type 0 where
  pub heard : List ℕ
  pub beyond : ℕ
  pub is_heard : IsHeardFor old.limit.most (source_of old.world.setup.table endpoint).0 bytes heard beyond
  pub serves : Serves (Hear moment endpoint heard ∷ []) old new
  pub limit : new.limit ≡ passing old.limit beyond

abbrev pub LeavesLimited : ℕ → ℕ → List ℕ → ConferenceState → ConferenceState → EventFault → Type 0
LeavesLimited moment endpoint bytes old new Busy = (¬ IsIdle old.world) × (new ≡ old)
LeavesLimited moment endpoint bytes old new NoMemory = new ≡ old
LeavesLimited moment endpoint bytes old new Unsettled = HearsLimited moment endpoint bytes old new

-- the same of the machine and what it gave out, if nothing waited
abbrev pub StopsAfter : List Event → WorldState → List Out → WorldState → List Out → EventFault
    → Type 0
StopsAfter outside old outs new all Busy = ⊥
StopsAfter outside old outs new all NoMemory = Stays old outs new all
StopsAfter outside old outs new all Unsettled = Drives outside old outs new all

pub record DrivesLimited (moment endpoint : ℕ) (bytes : List ℕ) (limit next : EntryLimit)
    (old : WorldState) (outs : List Out) (new : WorldState) (all : List Out) : Type 0 where
  pub heard : List ℕ
  pub beyond : ℕ
  pub is_heard : IsHeardFor limit.most (source_of old.setup.table endpoint).0 bytes heard beyond
  pub drives : Drives (Hear moment endpoint heard ∷ []) old outs new all
  pub passes : next ≡ passing limit beyond

abbrev pub StopsLimited : ℕ → ℕ → List ℕ → EntryLimit → EntryLimit → WorldState → List Out
    → WorldState → List Out → EventFault → Type 0
StopsLimited moment endpoint bytes limit next old outs new all Busy = ⊥
StopsLimited moment endpoint bytes limit next old outs new all NoMemory =
    Stays old outs new all × (next ≡ limit)
StopsLimited moment endpoint bytes limit next old outs new all Unsettled =
    DrivesLimited moment endpoint bytes limit next old outs new all

-- ---- what was served since it was opened

-- Since it was opened by these settings a conference was given these events from outside, and these datagrams were taken from it.
-- Those and the ones that wait are what the machine gave out, in order; no job was given up. What each desk announces, what is told
-- of it, the stays that ended, and what is live when nothing waits, are as the machine's laws say.
pub record HasServed (c : Configuration) (outside : List Event) (taken : List Datagram)
    (s : ConferenceState) : Type 0 where
  pub range : IsInRange c
  pub start : WorldState
  pub opens : IsNewWorld c start
  pub outs : List Out
  pub drives : Drives outside start [] s.world outs
  pub datagrams : datagrams_of outs ≡ taken ++ s.waiting
  pub lost : s.world.lost ≡ 0
  pub announces : AfterEach (Announces c) start drives.run.history
  pub ends : AfterEach (EndsStays c) start drives.run.history
  pub quiet : IsIdle s.world
      → LeavesLastHeard c start drives.events drives.run.history s.world

-- Whatever was served before, now these events from outside were served, too.
abbrev pub ServesOn : List Event → ConferenceState → ConferenceState → Type 0
ServesOn more old new =
    (c : Configuration) (outside : List Event) (taken : List Datagram)
    → HasServed c outside taken old → HasServed c (outside ++ more) taken new

-- whatever was served before, now this datagram was taken, too
abbrev pub HandsNext : Datagram → ConferenceState → ConferenceState → Type 0
HandsNext d old new =
    (c : Configuration) (outside : List Event) (taken : List Datagram)
    → HasServed c outside taken old → HasServed c outside (taken ++ d ∷ []) new

-- ---- opening

-- nothing was served yet, nothing waits, and nothing is to be sent
pub record IsNewConference (c : Configuration) (s : ConferenceState) : Type 0 where
  pub world : IsNewWorld c s.world
  pub idle : IsIdle s.world
  pub waiting : s.waiting ≡ []
  pub served : HasServed c [] [] s

-- the text gives these settings, and they have one worker; its key says how many entries of a datagram `hear_limited` hears
pub record OpensBy (text : List ℕ) (s : ConferenceState) : Type 0 where
  pub file : FileSettings
  pub gives : TextGives text (Ok file)
  pub one : file.settings.workers ≡ 1
  pub is_new : IsNewConference file.settings s
  pub limit : s.limit ≡ limit_by file.bounds.entry_limit

-- the settings that the text gives have so many workers, and not one
pub record HasWorkers (text : List ℕ) (count : ℕ) : Type 0 where
  pub file : FileSettings
  pub gives : TextGives text (Ok file)
  pub says : file.settings.workers ≡ count
  pub several : count ≢ 1

-- why a text opens no conference: memory is wanting, its settings are at fault, or they have not one worker
abbrev pub RefusesToOpen : List ℕ → OpenFault → Type 0
RefusesToOpen text open_fault.NoMemory = Unit {0}
RefusesToOpen text (open_fault.Settings problem) = TextGives text (Err problem)
RefusesToOpen text (open_fault.Workers count) = HasWorkers text count
