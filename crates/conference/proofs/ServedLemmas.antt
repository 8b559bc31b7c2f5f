-- What calls of a conference come to, one after the other.
use Rattle.std.proofs.Common.{◌≡◌, ◌∙◌, ℕ, ◌≤◌, List, [], ◌∷◌, ◌++◌, length, drop, refl, sym, ap, subst, arith, append_assoc, length-append}
use Rattle.std.proofs.lemmas.Grind.{flat_map-append}
use Rattle.std.proofs.lemmas.List.{drop-append-le}
use Rattle.settings.specs.Settings.{Configuration, IsInRange}
use Rattle.events.specs.declared.event.Event.{Event}
use Rattle.events.specs.declared.output.Out.{Out}
use Rattle.ports.specs.declared.datagram.Datagram.{Datagram}
use Rattle.ports.specs.Outside.{datagram_in, datagrams_of}
use Rattle.core_steps.specs.Happening.{Happening}
use Rattle.core_steps.specs.Opening.{IsNewWorld}
use Rattle.core_steps.specs.Run.{Runs, outs_of}
use Rattle.core_steps.specs.World.{WorldState}
use Rattle.core_steps.proofs.OverRunsLemmas.{announces_over_run, ends_over_run, runs_first}
use Rattle.one_thread.specs.Driving.{Drives}
use Rattle.one_thread.proofs.DrivingLemmas.{drives_after, drives_nothing, drives_on, new_idle, none_lost}
use Rattle.one_thread.proofs.DriverLemmas.{last_heard}
use Rattle.conference.specs.declared.fault.EventFault.{EventFault}
use Rattle.conference.specs.declared.fault.EventFault.TheVariants.{Busy, NoMemory, Unsettled}
use Rattle.conference.specs.Limited.{EntryLimit}
use Rattle.conference.specs.Conference.{ConferenceState, HandsNext, HasServed, IsNewConference, LeavesEvents, Serves, ServesOn, StopsAfter, conference_state}

-- ---- one call

-- what was done stands by itself, whatever was given out before
by_itself : (xs : List Event) (w next : WorldState) (outs all : List Out) → (d : Drives xs w outs next all)
    → Drives xs w [] next (outs_of d.run.history)
by_itself xs w next outs all d = record {
  events = d.events;
  run = record { history = d.run.history; runs = d.run.runs; leads = d.run.leads; given = refl };
  comes = d.comes;
  found = d.found;
  kept = d.kept;
}

pub serves_of : (xs : List Event) (w next : WorldState) (outs all : List Out) (taken : ℕ) (limit later : EntryLimit) → taken ≤ length outs
    → Drives xs w outs next all → Serves xs (conference_state w outs taken limit) (conference_state next all taken later)
serves_of xs w next outs all taken limit later within d = record {
  outs = outs_of d.run.history;
  drives = by_itself xs w next outs all d;
  waiting = ap (λ (l : List Out). datagrams_of (drop taken l)) d.run.given
      ∙ ap datagrams_of (drop-append-le taken outs (outs_of d.run.history) within)
      ∙ flat_map-append datagram_in (drop taken outs) (outs_of d.run.history);
}

pub still_within : (xs : List Event) (w next : WorldState) (outs all : List Out) (taken : ℕ) → taken ≤ length outs
    → Drives xs w outs next all → taken ≤ length all
still_within xs w next outs all taken within d =
    let size = ap length d.run.given ∙ length-append outs (outs_of d.run.history) in
    omega (arith, within, size)

pub leaves_of : (xs : List Event) (w next : WorldState) (outs all : List Out) (taken : ℕ) (limit : EntryLimit) (fault : EventFault)
    → taken ≤ length outs → StopsAfter xs w outs next all fault
    → LeavesEvents xs (conference_state w outs taken limit) (conference_state next all taken limit) fault
leaves_of xs w next outs all taken limit Busy within stops = absurd stops
leaves_of xs w next outs all taken limit NoMemory within stops = λ i. conference_state (stops.0 i) (stops.1 i) taken limit
leaves_of xs w next outs all taken limit Unsettled within stops = serves_of xs w next outs all taken limit limit within stops

-- ---- since it was opened

served : (c : Configuration) (outside : List Event) (taken : List Datagram) (start : WorldState) (s : ConferenceState) (outs : List Out)
    → IsInRange c → IsNewWorld c start → Drives outside start [] s.world outs → datagrams_of outs ≡ taken ++ s.waiting
    → HasServed c outside taken s
served c outside taken start s outs range new d datagrams =
    let lost : s.world.lost ≡ 0 = none_lost outside start s.world [] outs d new.lost in record {
      range = range;
      start = start;
      opens = new;
      outs = outs;
      drives = d;
      datagrams = datagrams;
      lost = lost;
      announces = λ early rest e.
          let r = runs_first start d.events early rest (subst (λ (hs : List Happening). Runs start d.events hs) e d.run.runs) in
          announces_over_run c start r.0 early new r.1;
      ends = λ early rest e.
          let r = runs_first start d.events early rest (subst (λ (hs : List Happening). Runs start d.events hs) e d.run.runs) in
          ends_over_run c start r.0 early new r.1;
      quiet = λ idle. last_heard c start s.world d.events d.run.history range new d.run.runs d.run.leads idle lost;
    }

pub new_conference : (c : Configuration) (w : WorldState) (limit : EntryLimit) → IsInRange c → IsNewWorld c w → c.workers ≡ 1
    → IsNewConference c (conference_state w [] 0 limit)
new_conference c w limit range new one = record {
  world = new;
  idle = new_idle c w new (new.worker_count ∙ one);
  waiting = refl;
  served = served c [] [] w (conference_state w [] 0 limit) [] range new (drives_nothing w []) refl;
}

pub serves_on : (xs : List Event) (old new : ConferenceState) → Serves xs old new → ServesOn xs old new
serves_on xs old new s c outside taken h =
    served c (outside ++ xs) taken h.start new (h.outs ++ s.outs) h.range h.opens
    (drives_on outside xs h.start old.world new.world [] h.outs (h.outs ++ s.outs) h.drives
    (drives_after xs old.world new.world h.outs s.outs s.drives))
    (flat_map-append datagram_in h.outs s.outs
    ∙ ap (λ (l : List Datagram). l ++ datagrams_of s.outs) h.datagrams
    ∙ append_assoc taken old.waiting (datagrams_of s.outs)
    ∙ ap (λ (l : List Datagram). taken ++ l) (sym s.waiting))

pub hands_out : (d : Datagram) (old new : ConferenceState) → old.waiting ≡ d ∷ new.waiting → new.world ≡ old.world → HandsNext d old new
hands_out d old new first same c outside taken h =
    served c outside (taken ++ d ∷ []) h.start new h.outs h.range h.opens
    (subst (λ (w : WorldState). Drives outside h.start [] w h.outs) (sym same) h.drives)
    (h.datagrams ∙ ap (λ (l : List Datagram). taken ++ l) first ∙ sym (append_assoc taken (d ∷ []) new.waiting))
