-- Drives one after the other, and of one event.
use Rattle.std.proofs.Common.{◌≡◌, ◌∙◌, ℕ, ◌+◌, ◌<◌, zero, suc, List, [], ◌∷◌, ◌++◌, length, take, true, false, refl, sym, ap, subst, arith, append_assoc, append-nil, Option, None, Some, slice_get}
use Rattle.std.proofs.lemmas.Grind.{flat_map-append}
use Rattle.std.proofs.lemmas.List.Elements.{filter-append}
use Rattle.std.proofs.Math.Seq.{take-append_seam}
use Rattle.std.specs.Prelude.{◌||◌, filter, is_some, not, sum_by}
use Rattle.events.specs.declared.event.Event.{Event}
use Rattle.events.specs.declared.event.Event.TheVariants.{Hear, Tick, Select, Ingress, Work}
use Rattle.events.specs.declared.job.Job.{Job}
use Rattle.events.specs.declared.output.Out.{Out}
use Rattle.core_steps.specs.Happening.{GivenUp, Happening, world_after}
use Rattle.core_steps.specs.Opening.{IsNewWorker, IsNewWorld}
use Rattle.core_steps.specs.Rule.{Does, is_busy, is_empty}
use Rattle.core_steps.specs.Run.{HasRun, Runs, Stays, outs_of, worlds_after}
use Rattle.core_steps.specs.Settling.{ingress_left}
use Rattle.core_steps.specs.Waits.{as_counted, hand_count, has_work, pending_count, worker_has_work, works_more}
use Rattle.core_steps.specs.World.{Hand, Task, WorkerState, WorldState, doing, free, telling}
use Rattle.core_steps.specs.declared.world.Waiting.{Waiting}
use Rattle.desk_calls.specs.Notification.{Pending}
use Rattle.settings.specs.Settings.{Configuration}
use Rattle.core_steps.proofs.AsideLemmas.{work_aside, ingress_same}
use Rattle.core_steps.proofs.HistoryLemmas.{runs_join}
use Rattle.core_steps.proofs.SettleLemmas.{step_of}
use Rattle.one_thread.specs.Driving.{Drives, DrivesBoth, DrivesSome, FindsNothing, IsIdle, is_from_outside, jobs_given_up}
use Rattle.one_thread.proofs.StepLemmas.{none_given, same_workers}

-- ---- one after the other

fold_worlds : (w : WorldState) (first second : List Happening) → worlds_after w (first ++ second) ≡ worlds_after (worlds_after w first) second
fold_worlds w [] second = refl
fold_worlds w (h ∷ first) second = fold_worlds (world_after w h) first second

finds_join : (w : WorldState) (first second : List Event) (past next : List Happening) → Runs w first past → FindsNothing w first past
    → FindsNothing (worlds_after w past) second next → FindsNothing w (first ++ second) (past ++ next)
finds_join w [] second [] next r f g = g
finds_join w [] second (h ∷ past) next r f g = absurd r
finds_join w (e ∷ first) second [] next r f g = absurd r
finds_join w (e ∷ first) second (h ∷ past) next r f g = (f.0, finds_join (world_after w h) first second past next r.1 f.1 g)

pub drives_nothing : (w : WorldState) (outs : List Out) → Drives [] w outs w outs
drives_nothing w outs = record {
  events = [];
  run = record { history = []; runs = tt; leads = refl; given = sym (append-nil outs) };
  comes = refl;
  found = tt;
  kept = refl;
}

pub drives_on : (xs ys : List Event) (a b c : WorldState) (outs more all : List Out) → Drives xs a outs b more → Drives ys b more c all
    → Drives (xs ++ ys) a outs c all
drives_on xs ys a b c outs more all first last =
    let runs : Runs (worlds_after a first.run.history) last.events last.run.history =
    subst (λ (w : WorldState). Runs w last.events last.run.history) first.run.leads last.run.runs in
    let found : FindsNothing (worlds_after a first.run.history) last.events last.run.history =
    subst (λ (w : WorldState). FindsNothing w last.events last.run.history) first.run.leads last.found in
    record {
      events = first.events ++ last.events;
      run = record {
        history = first.run.history ++ last.run.history;
        runs = runs_join a first.events last.events first.run.history last.run.history first.run.runs runs;
        leads = last.run.leads ∙ ap (λ (w : WorldState). worlds_after w last.run.history) first.run.leads
            ∙ sym (fold_worlds a first.run.history last.run.history);
        given = last.run.given ∙ ap (λ (l : List Out). l ++ outs_of last.run.history) first.run.given
            ∙ append_assoc outs (outs_of first.run.history) (outs_of last.run.history)
            ∙ ap (λ (l : List Out). outs ++ l) (sym (flat_map-append (λ (h : Happening). h.outs) first.run.history last.run.history));
      };
      comes = filter-append is_from_outside first.events last.events ∙ (λ i. first.comes i ++ last.comes i);
      found = finds_join a first.events last.events first.run.history last.run.history first.run.runs first.found found;
      kept = flat_map-append (λ (h : Happening). h.given_up) first.run.history last.run.history ∙ (λ i. first.kept i ++ last.kept i);
    }

-- how much was given out by the first of two drives
pub drives_both : (xs ys : List Event) (a b c : WorldState) (outs more all : List Out) → Drives xs a outs b more → Drives ys b more c all
    → DrivesBoth xs ys a outs c all (length more)
drives_both xs ys a b c outs more all first last =
    let cut : take (length more) all ≡ more =
    ap (λ (l : List Out). take (length more) l) last.run.given ∙ take-append_seam more (outs_of last.run.history) in
    record {
      between = b;
      before = subst (λ (l : List Out). Drives xs a outs b l) (sym cut) first;
      after = subst (λ (l : List Out). Drives ys b l c all) (sym cut) last;
    }

-- ---- one event

-- the history of one event is one happening
drives_in : (e : Event) (xs : List Event) (w next : WorldState) (outs all : List Out) (history : List Happening)
    → filter is_from_outside (e ∷ []) ≡ xs → (is_from_outside e ≡ true → IsIdle w)
    → ((h : Happening) → Does w e h → h.given_up ≡ []) → Runs w (e ∷ []) history → next ≡ worlds_after w history
    → all ≡ outs ++ outs_of history → Drives xs w outs next all
drives_in e xs w next outs all [] comes finds kept runs leads given = absurd runs
drives_in e xs w next outs all (h ∷ []) comes finds kept runs leads given = record {
  events = e ∷ [];
  run = record { history = h ∷ []; runs = runs; leads = leads; given = given };
  comes = comes;
  found = (finds, tt);
  kept = append-nil h.given_up ∙ kept h runs.0;
}
drives_in e xs w next outs all (h ∷ (k ∷ history)) comes finds kept runs leads given = absurd runs.1

drives_one : (e : Event) (xs : List Event) (w next : WorldState) (outs all : List Out) → filter is_from_outside (e ∷ []) ≡ xs
    → (is_from_outside e ≡ true → IsIdle w) → ((h : Happening) → Does w e h → h.given_up ≡ []) → HasRun (e ∷ []) w outs next all
    → Drives xs w outs next all
drives_one e xs w next outs all comes finds kept r = drives_in e xs w next outs all r.history comes finds kept r.runs r.leads r.given

no_outside : {A : Type 0} → false ≡ true → A
no_outside {A} e = absurd (cc)

pub drives_work : (w next : WorldState) (outs all : List Out) → HasRun (Work 0 ∷ []) w outs next all → Drives [] w outs next all
drives_work w next outs all r =
    drives_one (Work 0) [] w next outs all refl (λ e. no_outside e) (λ h does. (work_aside w 0 h does).kept) r

pub drives_ingress : (w next : WorldState) (outs all : List Out) → length w.workers ≡ 1 → has_work w 0 ≡ false
    → HasRun (Ingress ∷ []) w outs next all → Drives [] w outs next all
drives_ingress w next outs all one idle r =
    drives_one Ingress [] w next outs all refl (λ e. no_outside e) (λ h does. none_given w Ingress h one idle does) r

pub same_count : (w : WorldState) (e : Event) (next : WorldState) (outs all : List Out) → HasRun (e ∷ []) w outs next all
    → length next.workers ≡ length w.workers
same_count w e next outs all r =
    let s = step_of w e next outs all r in
    ap (λ (x : WorldState). length x.workers) s.leads ∙ same_workers w s.happening

pub work_leaves_ingress : (w next : WorldState) (outs all : List Out) → HasRun (Work 0 ∷ []) w outs next all
    → ingress_left next ≡ ingress_left w
work_leaves_ingress w next outs all r =
    let s = step_of w (Work 0) next outs all r in
    ap ingress_left s.leads ∙ ingress_same w s.happening (work_aside w 0 s.happening s.does)

-- ---- an event from outside

taken : (e : Event) → is_from_outside e ≡ true → filter is_from_outside (e ∷ []) ≡ e ∷ []
taken (Hear moment endpoint bytes) o = refl
taken (Tick moment) o = refl
taken (Select moment leg on) o = refl
taken Ingress o = no_outside o
taken (Work k) o = no_outside o

-- ---- when nothing waits

free_hand : (hand : Hand) (jobs : List Job) → hand_count hand ≡ 0 → length jobs ≡ 0 → works_more hand jobs ≡ false
free_hand free [] h j = refl
free_hand free (job ∷ jobs) h j = absurd (cc)
free_hand (doing job) jobs h j = absurd (cc)
free_hand (telling p) jobs h j = absurd (cc)

free_worker : (workers : List WorkerState) → length workers ≡ 1
    → as_counted (sum_by (λ (s : WorkerState). length s.jobs) workers) ≡ 0
    → as_counted (sum_by (λ (s : WorkerState). hand_count s.hand) workers) ≡ 0 → worker_has_work (slice_get workers 0) ≡ false
free_worker [] one j h = absurd (omega (arith, one))
free_worker (x ∷ []) one j h = free_hand x.hand x.jobs (omega (arith, h)) (omega (arith, j))
free_worker (x ∷ (y ∷ workers)) one j h = absurd (omega (arith, one))

pub idle_worker : (w : WorldState) → length w.workers ≡ 1 → IsIdle w → has_work w 0 ≡ false
idle_worker w one idle =
    free_worker w.workers one (ap (λ (x : Waiting). x.jobs) idle) (ap (λ (x : Waiting). x.hands) idle)

waits_none : (p : Option Pending) (tasks : List Task) → (is_some p || not (is_empty tasks)) ≡ false → length tasks + pending_count p ≡ 0
waits_none None [] b = refl
waits_none None (t ∷ tasks) b = absurd (cc)
waits_none (Some p) tasks b = absurd (cc)

hand_free : (hand : Hand) (jobs : List Job) → works_more hand jobs ≡ false → (hand_count hand ≡ 0) × (length jobs ≡ 0)
hand_free free [] b = (refl, refl)
hand_free free (job ∷ jobs) b = absurd (cc)
hand_free (doing job) jobs b = absurd (cc)
hand_free (telling p) jobs b = absurd (cc)

worker_free : (workers : List WorkerState) → length workers ≡ 1 → worker_has_work (slice_get workers 0) ≡ false
    → (as_counted (sum_by (λ (s : WorkerState). length s.jobs) workers) ≡ 0)
    × (as_counted (sum_by (λ (s : WorkerState). hand_count s.hand) workers) ≡ 0)
worker_free [] one b = absurd (omega (arith, one))
worker_free (x ∷ []) one b =
    let both = hand_free x.hand x.jobs b in (omega (arith, both.1), omega (arith, both.0))
worker_free (x ∷ (y ∷ workers)) one b = absurd (omega (arith, one))

pub idle_of : (w : WorldState) → length w.workers ≡ 1 → is_busy w ≡ false → has_work w 0 ≡ false → IsIdle w
idle_of w one busy work =
    let tasks : length w.tasks + pending_count w.pending ≡ 0 = waits_none w.pending w.tasks busy in
    let both = worker_free w.workers one work in
    λ i. record { tasks = tasks i; jobs = both.0 i; hands = both.1 i }

pub drives_event : (e : Event) (w next : WorldState) (outs all : List Out) → is_from_outside e ≡ true → length w.workers ≡ 1 → IsIdle w
    → HasRun (e ∷ []) w outs next all → Drives (e ∷ []) w outs next all
drives_event e w next outs all o one idle r =
    drives_one e (e ∷ []) w next outs all (taken e o) (λ b. idle) (λ h does. none_given w e h one (idle_worker w one idle) does) r

-- ---- events that aren't all done

pub some_none : (xs : List Event) (w next : WorldState) (outs all : List Out) → Stays w outs next all → DrivesSome xs w outs next all
some_none xs w next outs all stays = record {
  done = [];
  left = xs;
  both = refl;
  drives = subst (λ (x : WorldState). Drives [] w outs x all) (sym stays.0)
      (subst (λ (l : List Out). Drives [] w outs w l) (sym stays.1) (drives_nothing w outs));
}

pub some_all : (xs : List Event) (w next : WorldState) (outs all : List Out) → Drives xs w outs next all → DrivesSome xs w outs next all
some_all xs w next outs all drives = record { done = xs; left = []; both = append-nil xs; drives = drives }

pub some_first : (xs ys : List Event) (w next : WorldState) (outs all : List Out) → DrivesSome xs w outs next all
    → DrivesSome (xs ++ ys) w outs next all
some_first xs ys w next outs all s = record {
  done = s.done;
  left = s.left ++ ys;
  both = sym (append_assoc s.done s.left ys) ∙ ap (λ (l : List Event). l ++ ys) s.both;
  drives = s.drives;
}

pub some_after : (xs ys : List Event) (a b c : WorldState) (outs more all : List Out) → Drives xs a outs b more
    → DrivesSome ys b more c all → DrivesSome (xs ++ ys) a outs c all
some_after xs ys a b c outs more all first s = record {
  done = xs ++ s.done;
  left = s.left;
  both = append_assoc xs s.done s.left ∙ ap (λ (l : List Event). xs ++ l) s.both;
  drives = drives_on xs s.done a b c outs more all first s.drives;
}

-- ---- after what was there

pub drives_after : (xs : List Event) (w next : WorldState) (outs all : List Out) → Drives xs w [] next all
    → Drives xs w outs next (outs ++ all)
drives_after xs w next outs all d = record {
  events = d.events;
  run = record {
    history = d.run.history;
    runs = d.run.runs;
    leads = d.run.leads;
    given = ap (λ (l : List Out). outs ++ l) d.run.given;
  };
  comes = d.comes;
  found = d.found;
  kept = d.kept;
}

-- ---- a new world

pub new_worker_free : (c : Configuration) (w : WorldState) → IsNewWorld c w → length w.workers ≡ 1 → has_work w 0 ≡ false
new_worker_free c w new one = first w.workers one new.workers
  where
    first : (workers : List WorkerState) → length workers ≡ 1
        → ((k : ℕ) (s : WorkerState) → slice_get workers k ≡ Some s → IsNewWorker c k s) → worker_has_work (slice_get workers 0) ≡ false
    first [] one each = absurd (omega (arith, one))
    first (x ∷ workers) one each =
        let x_new = each 0 x refl in
        free_hand x.hand x.jobs (ap hand_count x_new.hand) (ap length x_new.jobs)

pub new_idle : (c : Configuration) (w : WorldState) → IsNewWorld c w → length w.workers ≡ 1 → IsIdle w
new_idle c w new one =
    idle_of w one ((λ i. is_some (new.pending i) || not (is_empty (new.tasks i)))) (new_worker_free c w new one)

none_lost_from : (w : WorldState) (history : List Happening) → w.lost ≡ 0 → jobs_given_up history ≡ [] → (worlds_after w history).lost ≡ 0
none_lost_from w [] lost kept = lost
none_lost_from w (h ∷ history) lost kept = at h.given_up refl kept (λ l k. none_lost_from (world_after w h) history l k)
  where
    at : (given : List GivenUp) → h.given_up ≡ given → given ++ jobs_given_up history ≡ []
        → ((world_after w h).lost ≡ 0 → jobs_given_up history ≡ [] → (worlds_after (world_after w h) history).lost ≡ 0)
        → (worlds_after (world_after w h) history).lost ≡ 0
    at [] is rest next =
        let none : length h.given_up ≡ 0 = ap length is in
        next (omega (arith, none, lost)) rest
    at (g ∷ given) is rest next = absurd (cc)

pub none_lost : (xs : List Event) (w next : WorldState) (outs all : List Out) → Drives xs w outs next all → w.lost ≡ 0 → next.lost ≡ 0
none_lost xs w next outs all d lost =
    ap (λ (x : WorldState). x.lost) d.run.leads ∙ none_lost_from w d.run.history lost d.kept

-- ---- a refused event

none_run : (w next : WorldState) (outs all : List Out) (history : List Happening) → Runs w [] history → next ≡ worlds_after w history
    → all ≡ outs ++ outs_of history → Stays w outs next all
none_run w next outs all [] runs leads given = (leads, given ∙ append-nil outs)
none_run w next outs all (h ∷ history) runs leads given = absurd runs

pub nothing_run : (e : Event) (done : ℕ) (w next : WorldState) (outs all : List Out) → done < 1 → HasRun (take done (e ∷ [])) w outs next all
    → Stays w outs next all
nothing_run e zero w next outs all less r = none_run w next outs all r.history r.runs r.leads r.given
nothing_run e (suc n) w next outs all less r = absurd (omega (arith, less))

pub drives_stays : (xs : List Event) (a b c : WorldState) (outs more all : List Out) → Drives xs a outs b more → Stays b more c all
    → Drives xs a outs c all
drives_stays xs a b c outs more all drives stays =
    subst (λ (w : WorldState). Drives xs a outs w all) (sym stays.0)
    (subst (λ (l : List Out). Drives xs a outs b l) (sym stays.1) drives)

-- ---- settling

-- a step of the ingress, and what the worker does then
pub settle_on : (a b c d : WorldState) (outs more some all : List Out) → Drives [] a outs b more → length b.workers ≡ 1 → has_work b 0 ≡ false
    → HasRun (Ingress ∷ []) b more c some → Drives [] c some d all → Drives [] a outs d all
settle_on a b c d outs more some all first one idle run last =
    drives_on [] [] a b d outs more all first
    (drives_on [] [] b c d more some all (drives_ingress b c more some one idle run) last)

-- an event from outside, and what follows from it
pub taken_in : (e : Event) (w mid next : WorldState) (outs some all : List Out) → is_from_outside e ≡ true → length w.workers ≡ 1 → IsIdle w
    → HasRun (e ∷ []) w outs mid some → Drives [] mid some next all → Drives (e ∷ []) w outs next all
taken_in e w mid next outs some all o one idle run last =
    drives_on (e ∷ []) [] w mid next outs some all (drives_event e w mid outs some o one idle run) last

pub taken_some : (e : Event) (w mid next : WorldState) (outs some all : List Out) → is_from_outside e ≡ true → length w.workers ≡ 1
    → IsIdle w → HasRun (e ∷ []) w outs mid some → Drives [] mid some next all → DrivesSome (e ∷ []) w outs next all
taken_some e w mid next outs some all o one idle run last =
    some_all (e ∷ []) w next outs all (taken_in e w mid next outs some all o one idle run last)
