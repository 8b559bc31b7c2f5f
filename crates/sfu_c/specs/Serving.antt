-- What a call does with the conference of a slot.
use Rattle.std.specs.Prelude.{◌≡◌, ◌↔◌, ◌⊎◌, ℕ, List, [], ◌∷◌, Option, None, Some, option_map, Result, Ok, Err}
use Rattle.desk_calls.specs.DeskCalls.{source_of}
use Rattle.events.specs.declared.event.Event.{Event}
use Rattle.events.specs.declared.event.Event.TheVariants.{Hear}
use Rattle.one_thread.specs.Driving.{IsIdle}
use Rattle.conference.specs.declared.fault.EventFault.{EventFault}
use Rattle.conference.specs.declared.fault.EventFault.TheVariants.{Busy, NoMemory, Unsettled}
use Rattle.conference.specs.Conference.{ConferenceState, Serves, ServesOn}
use Rattle.conference.specs.Limited.{EntryLimit, IsHeardFor, passing}
use Rattle.sfu_c.specs.declared.faults.TheConstants.{DONE, BUSY, NO_MEMORY, UNSETTLED}

-- A slot held a conference, and it holds one; what it was and what it is are in this relation.
pub record OnHeld (P : ConferenceState → ConferenceState → Type 0)
    (old new : Option ConferenceState) : Type 0 where
  pub before : ConferenceState
  pub after : ConferenceState
  pub was : old ≡ Some before
  pub is : new ≡ Some after
  pub fact : P before after

-- how many entries of a datagram are heard, and how many were passed over
abbrev pub limit_in : Option ConferenceState → Option EntryLimit
limit_in held = option_map (λ c. c.limit) held

-- This is heard for a datagram of the endpoint, and the entries beyond are counted.
abbrev pub IsLimited : ℕ → List ℕ → List ℕ → ConferenceState → ConferenceState → Type 0
IsLimited endpoint bytes heard old new =
    (beyond : ℕ)
    × IsHeardFor old.limit.most (source_of old.world.setup.table endpoint).0 bytes heard beyond
    × (new.limit ≡ passing old.limit beyond)

-- What a conference was given, and what is answered. DONE: these events from outside were done with all that follows, and nothing waits.
-- BUSY, exactly if something waited, and NO_MEMORY: nothing was done. UNSETTLED: the events were done, and the rest of what follows
-- waits. If they were done the conference has served them after all that it served since its opening: so the machine's laws hold of all
-- calls together.
pub record AnswersEvents (outside : List Event) (fault : ℕ) (old new : ConferenceState) : Type 0 where
  pub numbered : (fault ≡ DONE) ⊎ (fault ≡ BUSY) ⊎ (fault ≡ NO_MEMORY) ⊎ (fault ≡ UNSETTLED)
  pub done : fault ≡ DONE → Serves outside old new × IsIdle new.world
  pub busy : (fault ≡ BUSY) ↔ (¬ IsIdle old.world)
  pub undone : (fault ≡ BUSY) ⊎ (fault ≡ NO_MEMORY) → new ≡ old
  pub unsettled : fault ≡ UNSETTLED → Serves outside old new
  pub served : (fault ≡ DONE) ⊎ (fault ≡ UNSETTLED) → ServesOn outside old new

-- What is answered for a datagram: as for an event, a datagram that is heard for it, of whose entries the first are heard, as many as the
-- settings say; the others are counted. With no limit it is the datagram itself.
pub record AnswersHearing (moment endpoint : ℕ) (bytes : List ℕ) (fault : ℕ)
    (old new : ConferenceState) : Type 0 where
  pub heard : List ℕ
  pub answers : AnswersEvents (Hear moment endpoint heard ∷ []) fault old new
  pub limited : (fault ≡ DONE) ⊎ (fault ≡ UNSETTLED) → IsLimited endpoint bytes heard old new
  pub whole : old.limit.most ≡ None → heard ≡ bytes

-- What waited was done, all of it if DONE is answered.
pub record AnswersSettle (fault : ℕ) (old new : ConferenceState) : Type 0 where
  pub numbered : (fault ≡ DONE) ⊎ (fault ≡ UNSETTLED)
  pub serves : Serves [] old new
  pub served : ServesOn [] old new
  pub done : fault ≡ DONE → IsIdle new.world

-- the answer for an event that was done, or why it wasn't
abbrev pub event_answer : {A : Type 0} → Result A EventFault → ℕ
event_answer (Ok done) = DONE
event_answer (Err Busy) = BUSY
event_answer (Err NoMemory) = NO_MEMORY
event_answer (Err Unsettled) = UNSETTLED
