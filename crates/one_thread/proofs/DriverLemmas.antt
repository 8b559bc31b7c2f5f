-- What a whole run from a new world comes to.
use Rattle.std.proofs.Common.{◌≡◌, ◌∙◌, ℕ, ◌<◌, List, [], length, slice_get, Some, refl, sym, ap, subst, arith, inl, inr}
use Rattle.std.specs.Prelude.{All}
use Rattle.std.proofs.lemmas.Option.{get_or_from_slice_get, slice_get_within}
use Rattle.circular_buffer.proofs.Places.{slice_get-some}
use Rattle.settings.specs.Settings.{Configuration, IsInRange}
use Rattle.desk.specs.State.{DeskState, HoldsLegalDesk}
use Rattle.rate_desk.specs.Gathered.{AreDesksOf}
use Rattle.rate_desk.specs.Shares.{IsDeskOf}
use Rattle.ports.specs.declared.source.TheConstants.{MAX_FAULTS}
use Rattle.ports.specs.Ticks.{TicksState, new_ticks}
use Rattle.events.specs.declared.event.Event.{Event}
use Rattle.core_steps.specs.Happening.{Happening}
use Rattle.core_steps.specs.Opening.{IsNewDesk, IsNewWorld}
use Rattle.core_steps.specs.Quiet.{LastHeardIsLive}
use Rattle.core_steps.specs.Run.{Runs, worlds_after}
use Rattle.core_steps.specs.World.{WorldState}
use Rattle.core_steps.proofs.EndingLemmas.{length-desks}
use Rattle.core_steps.proofs.HistoryLemmas.{desks_stay_legal}
use Rattle.core_steps.proofs.OverRunsLemmas.{announces_over_run, ends_over_run, runs_first}
use Rattle.core_steps.proofs.QuietLemmas.{heard_in, last_heard_is_live}
use Rattle.core_steps.proofs.TraceLemmas.{desks_by_history, new_legal}
use Rattle.one_thread.specs.declared.driver.Report.{Report}
use Rattle.one_thread.specs.declared.tally.Tally.{Tally}
use Rattle.one_thread.specs.declared.driver.DriveFault.{DriveFault}
use Rattle.one_thread.specs.declared.driver.DriveFault.TheVariants.{NoMemory}
use Rattle.one_thread.specs.Driver.{EndsEarly, HasDriven, LeavesLastHeard, StopsEarly}
use Rattle.one_thread.specs.Driving.{IsIdle}
use Rattle.one_thread.specs.Turns.{HasEnded, OutsideView, events_of}
use Rattle.one_thread.proofs.DrivingLemmas.{none_lost}

at_desk : (P : DeskState → Type 0) (desks : List DeskState) (p : ℕ) (d : DeskState) → All P desks → slice_get desks p ≡ Some d → P d
at_desk P desks p d all f = subst P (get_or_from_slice_get desks p d d f) (all p d (slice_get_within desks p d f))

-- each publisher's desk is legal, with the settings' gap and age of requests
pub desks_are : (c : Configuration) (w : WorldState) (events : List Event) (history : List Happening) → IsNewWorld c w
    → Runs w events history → AreDesksOf c.pli_gap_ms c.request_ms (length c.endpoints) (worlds_after w history).desks
desks_are c w events history new r =
    let all = new_legal c w new in
    let later = desks_stay_legal w events history r all in
    let size = length-desks w history in
    record {
      count = size ∙ new.desk_count;
      each = λ k d low.
          let within : k < length w.desks = omega (arith, low, size) in
          let first = slice_get-some w.desks k within in
          let last = desks_by_history w events history r all k first.0 first.1 in
          let is_new = at_desk (IsNewDesk c) w.desks k first.0 new.desks first.1 in
          subst (IsDeskOf c.pli_gap_ms c.request_ms) (sym (get_or_from_slice_get (worlds_after w history).desks k last.desk d last.there))
          (record {
            legal = at_desk HoldsLegalDesk (worlds_after w history).desks k last.desk later last.there;
            apart = last.is.gap ∙ is_new.gap;
            age = last.is.request_ms ∙ is_new.request_ms;
          });
    }

pub last_heard : (c : Configuration) (start w : WorldState) (events : List Event) (history : List Happening) → IsInRange c → IsNewWorld c start
    → Runs start events history → w ≡ worlds_after start history → IsIdle w → w.lost ≡ 0 → LeavesLastHeard c start events history w
last_heard c start w events history range new runs leads idle lost =
    let heard = heard_in start events history runs in
    record {
      rates = heard.0;
      heard = heard.1;
      live = λ none. subst (λ (x : WorldState). LastHeardIsLive c history heard.0 x) (sym leads)
          (last_heard_is_live c start events history heard.0 range new runs heard.1 (record {
            waits = subst (λ (x : WorldState). IsIdle x) leads idle;
            lost = subst (λ (x : WorldState). x.lost ≡ 0) leads lost;
            recorded = none;
          }));
    }

pub has_driven : (c : Configuration) (tick_ms count : ℕ) (x y : OutsideView) (start final : WorldState) (first : TicksState)
    (faults : ℕ) (tally : Tally) (report : Report) → IsInRange c → IsNewWorld c start → first ≡ new_ticks tick_ms
    → HasEnded start first count final faults tally x y → faults < MAX_FAULTS → IsIdle final → report.counts ≡ tally
    → report.desks.items ≡ final.desks → HasDriven c tick_ms count x y report
has_driven c tick_ms count x y start final first faults tally report range new opened has few idle counts desks =
    let made : HasEnded start (new_ticks tick_ms) count final faults tally x y =
    subst (λ (t : TicksState). HasEnded start t count final faults tally x y) opened has in
    let d = made.made.drives in
    let lost : final.lost ≡ 0 = none_lost (events_of (new_ticks tick_ms) made.turns) start final [] made.made.outs d new.lost in
    record {
      start = start;
      final = final;
      turns = made.turns;
      tally = tally;
      opens = new;
      in_time = made.in_time;
      goes_on = made.goes_on;
      few = omega (arith, few, made.faults);
      made = made.made;
      idle = idle;
      lost = lost;
      announces = λ early rest e.
          let r = runs_first start d.events early rest (subst (λ (hs : List Happening). Runs start d.events hs) e d.run.runs) in
          announces_over_run c start r.0 early new r.1;
      ends = λ early rest e.
          let r = runs_first start d.events early rest (subst (λ (hs : List Happening). Runs start d.events hs) e d.run.runs) in
          ends_over_run c start r.0 early new r.1;
      quiet = last_heard c start final d.events d.run.history range new d.run.runs d.run.leads idle lost;
      counts = counts;
      desks = desks;
    }

pub desks_of_run : (c : Configuration) (start final : WorldState) (first : TicksState) (count faults : ℕ) (tally : Tally)
    (x y : OutsideView) (report : Report) → IsNewWorld c start → HasEnded start first count final faults tally x y
    → report.desks.items ≡ final.desks → AreDesksOf c.pli_gap_ms c.request_ms (length c.endpoints) report.desks.items
desks_of_run c start final first count faults tally x y report new has same =
    let d = has.made.drives in
    subst (λ (ds : List DeskState). AreDesksOf c.pli_gap_ms c.request_ms (length c.endpoints) ds)
    (sym (same ∙ ap (λ (w : WorldState). w.desks) d.run.leads))
    (desks_are c start d.events d.run.history new d.run.runs)

pub never_began : (c : Configuration) (tick_ms : ℕ) (x : OutsideView) (fault : DriveFault) → fault ≡ NoMemory → EndsEarly c tick_ms x x fault
never_began c tick_ms x fault is = inl (is, refl)

pub ends_early : (c : Configuration) (tick_ms : ℕ) (start : WorldState) (first : TicksState) (x y : OutsideView) (fault : DriveFault)
    → IsNewWorld c start → first ≡ new_ticks tick_ms → StopsEarly start first x y fault → EndsEarly c tick_ms x y fault
ends_early c tick_ms start first x y fault new opened stops =
    inr (start, new, subst (λ (t : TicksState). StopsEarly start t x y fault) opened stops)
