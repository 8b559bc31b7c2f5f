-- What is heard for a datagram of which no more than so many entries are heard.
use Rattle.std.proofs.Common.{◌≡◌, ◌∙◌, ℕ, zero, suc, ◌≤◌, List, [], ◌∷◌, length, Option, None, Some, refl, sym, subst, arith, Result, Ok, Err}
use Rattle.std.specs.Prelude.{OnOk}
use Rattle.std.specs.declared.alloc.AllocError.{AllocError}
use Rattle.std.proofs.lemmas.List.{take_all}
use Rattle.desk_calls.specs.DeskCalls.{source_of}
use Rattle.events.specs.declared.event.Event.TheVariants.{Hear}
use Rattle.events.specs.declared.output.Out.{Out}
use Rattle.datagram.specs.Reads.{Admission, HasBytes, IsReadUpTo, IsSaidIn, asks_beyond, first_asks}
use Rattle.datagram.specs.Spelling.{spelling}
use Rattle.datagram.specs.declared.reading.Ask.{Ask}
use Rattle.datagram.specs.declared.reading.Reading.{Reading}
use Rattle.datagram.specs.declared.reading.What.{What}
use Rattle.datagram.specs.declared.reading.What.TheVariants.{Media, Goodbye, Control, Refused}
use Rattle.core_steps.specs.Hearing.{SaysTaken}
use Rattle.core_steps.specs.Run.{HasRun}
use Rattle.core_steps.specs.World.{WorldState}
use Rattle.one_thread.specs.Driving.{Drives, IsIdle}
use Rattle.one_thread.proofs.DrivingLemmas.{same_count, taken_in}
use Rattle.conference.specs.declared.fault.EventFault.{EventFault}
use Rattle.conference.specs.declared.fault.EventFault.TheVariants.{Busy, NoMemory, Unsettled}
use Rattle.conference.specs.Conference.{ConferenceState, DrivesLimited, HearsLimited, LeavesLimited, StopsLimited, conference_state}
use Rattle.conference.specs.Limited.{EntryLimit, IsTakenFor, RunsLimited, TakesLimited, admitted, passing}
use Rattle.conference.proofs.ServedLemmas.{serves_of, still_within}

-- ---- what is heard

-- if nothing is passed over, all is listed
all_listed : (most : Option ℕ) (asks : List Ask) → asks_beyond most asks ≡ 0 → first_asks most asks ≡ asks
all_listed None asks none = refl
all_listed (Some most) asks none = take_all most asks (omega (arith, none))

own_bytes : (what : What) (bytes : List ℕ) → HasBytes what bytes bytes
own_bytes (Media packet) bytes = refl
own_bytes Goodbye bytes = tt
own_bytes (Control c) bytes = tt
own_bytes (Refused refusal) bytes = tt

spelled_bytes : (own : ℕ) (what : What) (asks : List Ask) (bytes : List ℕ) → HasBytes what bytes (spelling own what asks bytes)
unfolding spelling
spelled_bytes own (Media packet) asks bytes = refl
spelled_bytes own Goodbye asks bytes = tt
spelled_bytes own (Control c) asks bytes = tt
spelled_bytes own (Refused refusal) asks bytes = tt

heard_as : (own endpoint : ℕ) (bytes : List ℕ) (most : Option ℕ) (r : Reading) (beyond : ℕ) → r.beyond ≡ beyond → IsReadUpTo own bytes most r
    → IsSaidIn own (spelling own r.what r.asks.items bytes) (record { what = r.what; asks = r.asks.items })
    → IsTakenFor most own bytes (admitted endpoint r bytes) beyond
heard_as own endpoint bytes most r zero is read said =
    let none : asks_beyond most read.asks ≡ 0 = sym read.beyond ∙ is in
    let all : r.asks.items ≡ read.asks = read.listed ∙ all_listed most read.asks none in
    record {
      heard = bytes;
      is_heard = record {
        what = r.what;
        asks = read.asks;
        says = read.says;
        cut = subst (λ (l : List Ask). IsSaidIn own bytes (record { what = r.what; asks = l })) (sym (all_listed most read.asks none)) read.says;
        passed = sym none;
        whole = λ _. refl;
      };
      said = (subst (λ (l : List Ask). IsSaidIn own bytes (record { what = r.what; asks = l })) (sym all) read.says, own_bytes r.what bytes);
    }
heard_as own endpoint bytes most r (suc more) is read said = record {
  heard = spelling own r.what r.asks.items bytes;
  is_heard = record {
    what = r.what;
    asks = read.asks;
    says = read.says;
    cut = subst (λ (l : List Ask). IsSaidIn own (spelling own r.what r.asks.items bytes) (record { what = r.what; asks = l })) read.listed said;
    passed = sym is ∙ read.beyond;
    whole = λ none. absurd (omega (arith, none));
  };
  said = (said, spelled_bytes own r.what r.asks.items bytes);
}

pub taken_for : (own endpoint : ℕ) (bytes : List ℕ) (most : Option ℕ) (r : Reading) → IsReadUpTo own bytes most r
    → IsSaidIn own (spelling own r.what r.asks.items bytes) (record { what = r.what; asks = r.asks.items })
    → IsTakenFor most own bytes (admitted endpoint r bytes) r.beyond
taken_for own endpoint bytes most r read said = heard_as own endpoint bytes most r r.beyond refl read said

-- ---- a call

pub runs_limited : (moment : ℕ) (bytes : List ℕ) (most : Option ℕ) (beyond : ℕ) (w new : WorldState) (outs all : List Out)
    (r : Result (Unit {0}) AllocError) (t u : Admission) → IsTakenFor most (source_of w.setup.table t.endpoint).0 bytes t beyond → u ≡ t
    → ((heard : List ℕ) → SaysTaken w u heard → OnOk r (HasRun (Hear moment u.endpoint heard ∷ []) w outs new all))
    → OnOk r (RunsLimited moment t.endpoint bytes most beyond w outs new all)
runs_limited moment bytes most beyond w new outs all (Ok x) t u taken is runs = record {
  heard = taken.heard;
  is_heard = taken.is_heard;
  run = subst (λ (v : Admission). HasRun (Hear moment v.endpoint taken.heard ∷ []) w outs new all) is
      (runs taken.heard (subst (λ (v : Admission). SaysTaken w v taken.heard) (sym is) taken.said));
}
runs_limited moment bytes most beyond w new outs all (Err e) t u taken is runs = tt

pub takes_limited : (moment endpoint : ℕ) (bytes : List ℕ) (limit same next : EntryLimit) (w new : WorldState) (outs all : List Out)
    (beyond : ℕ) → same ≡ limit → RunsLimited moment endpoint bytes same.most beyond w outs new all → next ≡ passing same beyond
    → TakesLimited moment endpoint bytes limit next w outs new all
takes_limited moment endpoint bytes limit same next w new outs all beyond is runs passes =
    subst (λ (l : EntryLimit). TakesLimited moment endpoint bytes l next w outs new all) is
    (record { beyond = beyond; runs = runs; passes = passes })

pub drives_limited : (moment endpoint : ℕ) (bytes : List ℕ) (limit next : EntryLimit) (w mid new : WorldState) (outs some all : List Out)
    → length w.workers ≡ 1 → IsIdle w → TakesLimited moment endpoint bytes limit next w outs mid some
    → Drives [] mid some new all → DrivesLimited moment endpoint bytes limit next w outs new all
drives_limited moment endpoint bytes limit next w mid new outs some all one idle taken last = record {
  heard = taken.runs.heard;
  beyond = taken.beyond;
  is_heard = taken.runs.is_heard;
  drives = taken_in (Hear moment endpoint taken.runs.heard) w mid new outs some all refl one idle taken.runs.run last;
  passes = taken.passes;
}

-- as many workers as before
pub limited_count : (moment endpoint : ℕ) (bytes : List ℕ) (limit next : EntryLimit) (w mid : WorldState) (outs some : List Out)
    → TakesLimited moment endpoint bytes limit next w outs mid some → length mid.workers ≡ length w.workers
limited_count moment endpoint bytes limit next w mid outs some taken =
    same_count w (Hear moment endpoint taken.runs.heard) mid outs some taken.runs.run

pub hears_of : (moment endpoint : ℕ) (bytes : List ℕ) (limit later : EntryLimit) (w next : WorldState) (outs all : List Out) (taken : ℕ)
    → taken ≤ length outs → DrivesLimited moment endpoint bytes limit later w outs next all
    → HearsLimited moment endpoint bytes (conference_state w outs taken limit) (conference_state next all taken later)
hears_of moment endpoint bytes limit later w next outs all taken within d = record {
  heard = d.heard;
  beyond = d.beyond;
  is_heard = d.is_heard;
  serves = serves_of (Hear moment endpoint d.heard ∷ []) w next outs all taken limit later within d.drives;
  limit = d.passes;
}

pub limited_within : (moment endpoint : ℕ) (bytes : List ℕ) (limit later : EntryLimit) (w next : WorldState) (outs all : List Out) (taken : ℕ)
    → taken ≤ length outs → DrivesLimited moment endpoint bytes limit later w outs next all → taken ≤ length all
limited_within moment endpoint bytes limit later w next outs all taken within d =
    still_within (Hear moment endpoint d.heard ∷ []) w next outs all taken within d.drives

pub leaves_limited : (moment endpoint : ℕ) (bytes : List ℕ) (limit later : EntryLimit) (w next : WorldState) (outs all : List Out) (taken : ℕ)
    (fault : EventFault) → taken ≤ length outs → StopsLimited moment endpoint bytes limit later w outs next all fault
    → LeavesLimited moment endpoint bytes (conference_state w outs taken limit) (conference_state next all taken later) fault
leaves_limited moment endpoint bytes limit later w next outs all taken Busy within stops = absurd stops
leaves_limited moment endpoint bytes limit later w next outs all taken NoMemory within stops =
    λ i. conference_state (stops.0.0 i) (stops.0.1 i) taken (stops.1 i)
leaves_limited moment endpoint bytes limit later w next outs all taken Unsettled within stops =
    hears_of moment endpoint bytes limit later w next outs all taken within stops
