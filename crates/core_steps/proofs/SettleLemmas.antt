-- Each step of settling leaves less to do.
use Rattle.std.proofs.Common.{◌≡◌, ◌∙◌, ℕ, ◌+◌, ◌*◌, ◌<◌, ◌≤◌, List, [], ◌∷◌, ◌++◌, length, drop, Bool, true, false, refl, sym, ap, subst, arith, Option, None, Some, slice_get, slice_index_or, slice_set, fold, nat_le, length-append}
use Rattle.std.specs.Prelude.{◌||◌, not, is_some, if◌then◌else◌}
use Rattle.std.proofs.lemmas.List.{get_or-set_same, length-set}
use Rattle.std.proofs.lemmas.Option.{get_or_from_slice_get, slice_get_within}
use Rattle.members.specs.declared.order.Order.TheVariants.{Arrive, Depart, Route}
use Rattle.desk.specs.declared.call.Call.{Call as DeskCall}
use Rattle.desk.specs.declared.call.Call.TheVariants.{Time}
use Rattle.desk.specs.declared.call.Change.TheVariants as change
use Rattle.desk.specs.declared.call.Signal.TheVariants as signal
use Rattle.desk.specs.State.{DeskState}
use Rattle.events.specs.declared.event.Event.{Event}
use Rattle.events.specs.declared.event.Event.TheVariants.{Ingress, Work}
use Rattle.events.specs.declared.job.Job.{Job}
use Rattle.events.specs.declared.job.Job.TheVariants.{Packet, Request, Resend, Pli, Report, Goodbye}
use Rattle.events.specs.declared.output.Out.{Out}
use Rattle.events.specs.declared.output.Out.TheVariants.{Lost}
use Rattle.core_steps.specs.declared.ring.TheConstants.{JOB_LIMIT}
use Rattle.desk_calls.specs.DeskCalls.{stay_call, picture_call}
use Rattle.core_steps.specs.Happening.{Happening, RecordedCall, Worked, desks_by, no_worker, worker_after, workers_by, world_after}
use Rattle.core_steps.specs.Rule.{Does, DoesJob, DoesNext, DoesTask, IngressAsks, JobAsks, OrderAsks, WorkerAsks, Works, WorksOn, done_task, hand_of, ingress_asked, is_busy, is_empty, pushing, putting, worker_asked}
use Rattle.core_steps.specs.Run.{HasRun, Runs, worlds_after}
use Rattle.core_steps.specs.Waits.{has_work, pending_count, worker_has_work, works_more}
use Rattle.core_steps.specs.World.{Hand, Task, WorkerState, WorldState, doing, expire, free, order, pulse, push, report, telling}
use Rattle.desk_calls.specs.Notification.{pending_of, Pending}
use Rattle.core_steps.specs.Settling.{hand_left, ingress_left, state_left, work_left}

-- ---- a run of one event

pub record IsStep (w : WorldState) (event : Event) (next : WorldState) : Type 0 where
  pub happening : Happening
  pub does : Does w event happening
  pub leads : next ≡ world_after w happening

step_in : (w : WorldState) (event : Event) (next : WorldState) (history : List Happening) → Runs w (event ∷ []) history
    → next ≡ worlds_after w history → IsStep w event next
step_in w event next [] runs leads = absurd runs
step_in w event next (h ∷ []) runs leads = record { happening = h; does = runs.0; leads = leads }
step_in w event next (h ∷ (k ∷ history)) runs leads = absurd runs.1

pub step_of : (w : WorldState) (event : Event) (next : WorldState) (before outs : List Out) → HasRun (event ∷ []) w before next outs
    → IsStep w event next
step_of w event next before outs r = step_in w event next r.history r.runs r.leads

-- ---- the desks

fold_desks : (desks : List DeskState) (asked : List RecordedCall) → length (fold desks_by desks asked) ≡ length desks
fold_desks desks [] = refl
fold_desks desks (a ∷ asked) = fold_desks (desks_by desks a) asked ∙ length-set desks a.publisher a.desk

-- ---- the ingress

-- this task was done, and none made
abbrev IsOne : Task → Happening → Type 0
IsOne t h = (h.did ≡ t ∷ []) × (h.made ≡ [])

along : (t : Task) (h k : Happening) → h ≡ k → IsOne t k → IsOne t h
along t h k e one = subst (IsOne t) (sym e) one

replied_one : (w : WorldState) (t : Task) (p : ℕ) (reply : Option RecordedCall) → IsOne t (ingress_asked w t p reply)
replied_one w t p None = (refl, refl)
replied_one w t p (Some a) = (refl, refl)

asks_one : (w : WorldState) (t : Task) (p : ℕ) (call : DeskCall) (d : Option DeskState) (h : Happening) → IngressAsks w t p call d h → IsOne t h
asks_one w t p call None h r = along t h _ r (refl, refl)
asks_one w t p call (Some d) h r = along t h _ r.2 (replied_one w t p r.0)

order_one : (w : WorldState) (t : Task) (asked : Option (ℕ × DeskCall)) (h : Happening) → OrderAsks w t asked h → IsOne t h
order_one w t None h r = along t h _ r (refl, refl)
order_one w t (Some (p, call)) h r = asks_one w t p call (slice_get w.desks p) h r

either_one : (t : Task) (b : Bool) (h k : Happening) → IsOne t h → IsOne t k → IsOne t (if b then h else k)
either_one t true h k p q = p
either_one t false h k p q = q

push_one : (w : WorldState) (k : ℕ) (job : Job) (s : Option WorkerState) → IsOne (push k job) (pushing w k job s)
push_one w k job None = (refl, refl)
push_one w k job (Some s) =
    either_one (push k job) (nat_le JOB_LIMIT (length s.jobs))
    (record (done_task w (push k job) (Lost k ∷ [])) { given_up = record { worker = k; job = job } ∷ [] })
    (record (done_task w (push k job) []) { worked = putting k s job ∷ [] }) (refl, refl) (refl, refl)

task_one : (w : WorldState) (t : Task) (h : Happening) → DoesTask w t h → IsOne t h
task_one w (order (Arrive leg stay)) h r = order_one w (order (Arrive leg stay)) (stay_call w.setup.table leg stay change.Arrive) h r
task_one w (order (Depart leg stay)) h r = order_one w (order (Depart leg stay)) (stay_call w.setup.table leg stay change.Depart) h r
task_one w (order (Route leg stay turn on)) h r = along (order (Route leg stay turn on)) h _ r (refl, refl)
task_one w (push k job) h r = along (push k job) h _ r (push_one w k job (slice_get w.workers k))
task_one w (pulse p) h r = asks_one w (pulse p) p (Time w.room.moment signal.Tick) (slice_get w.desks p) h r
task_one w (expire p) h r = asks_one w (expire p) p (Time w.room.moment signal.Expire) (slice_get w.desks p) h r
task_one w (report p) h r = along (report p) h _ r.does (refl, refl)

-- what is left after so many tasks that were done
left_behind : (did made tasks : List Task) (pending : Option Pending) → made ≡ []
    → 2 * length (drop (length did) tasks ++ made) + pending_count pending ≤ 2 * length (drop (length did) tasks) + 1
left_behind did made tasks pending none =
    let size : length (drop (length did) tasks ++ made) ≡ length (drop (length did) tasks) =
    length-append (drop (length did) tasks) made ∙ omega (arith, ap length none) in
    small pending size
  where
    small : (p : Option Pending) → length (drop (length did) tasks ++ made) ≡ length (drop (length did) tasks)
        → 2 * length (drop (length did) tasks ++ made) + pending_count p ≤ 2 * length (drop (length did) tasks) + 1
    small None size = omega (arith, size)
    small (Some p) size = omega (arith, size)

next_falls : (w : WorldState) (p : Option Pending) (ts : List Task) (h : Happening) → w.pending ≡ p → w.tasks ≡ ts
    → (is_some p || not (is_empty ts)) ≡ true → DoesNext w p ts h → ingress_left (world_after w h) < ingress_left w
next_falls w (Some p) ts h pending tasks busy r =
    let did : h.did ≡ [] = ap (λ (x : Happening). x.did) r in
    let made : h.made ≡ [] = ap (λ (x : Happening). x.made) r in
    let none : pending_count h.pending ≡ 0 = ap (λ (x : Happening). pending_count x.pending) r in
    let one : pending_count w.pending ≡ 1 = ap pending_count pending in
    let size : length (drop (length h.did) w.tasks ++ h.made) ≡ length w.tasks =
    (λ i. length (drop (length (did i)) w.tasks ++ made i)) ∙ length-append w.tasks [] ∙ omega arith in
    omega (arith, none, one, size)
next_falls w None [] h pending tasks busy r = cc
next_falls w None (t ∷ ts) h pending tasks busy r =
    let one = task_one w t h r in
    let le = left_behind h.did h.made w.tasks h.pending one.1 in
    let size : length (drop (length h.did) w.tasks) ≡ length ts = λ i. length (drop (length (one.0 i)) (tasks i)) in
    let all : length w.tasks ≡ length ts + 1 = ap length tasks ∙ omega arith in
    omega (arith, le, size, all)

pub ingress_falls : (w next : WorldState) (before outs : List Out) → is_busy w ≡ true → HasRun (Ingress ∷ []) w before next outs
    → ingress_left next < ingress_left w
ingress_falls w next before outs busy r =
    let s = step_of w Ingress next before outs r in
    subst (λ (x : WorldState). ingress_left x < ingress_left w) (sym s.leads)
    (next_falls w w.pending w.tasks s.happening refl refl busy s.does)

-- ---- a worker

-- this was done at the worker, which leaves less
record Lessens (k : ℕ) (s : WorkerState) (h : Happening) : Type 0 where
  worked : Worked
  is : h.worked ≡ worked ∷ []
  at : worked.worker ≡ k
  less : state_left (worker_after s worked) < state_left s

lessens_along : (k : ℕ) (s : WorkerState) (h g : Happening) → h ≡ g → Lessens k s g → Lessens k s h
lessens_along k s h g e l = subst (Lessens k s) (sym e) l

-- the hand is another one, and the jobs stay
other_hand : (k : ℕ) (s : WorkerState) (d : Worked) (h : Happening) → h.worked ≡ d ∷ [] → d.worker ≡ k → d.taken ≡ [] → d.put ≡ []
    → hand_left d.hand < hand_left s.hand → Lessens k s h
other_hand k s d h is at taken put less =
    let size : length (drop (length d.taken) s.jobs ++ d.put) ≡ length s.jobs =
    (λ i. length (drop (length (taken i)) s.jobs ++ put i)) ∙ length-append s.jobs [] ∙ omega arith in
    record { worked = d; is = is; at = at; less = omega (arith, size, less) }

pending_left : (p : Option Pending) → hand_left (hand_of p) ≤ 1
pending_left None = omega arith
pending_left (Some p) = omega arith

worker_replied : (w : WorldState) (k : ℕ) (s : WorkerState) (job : Job) (leg : Option ℕ) (p : ℕ) (reply : Option RecordedCall)
    → hand_left s.hand ≡ 2 → Lessens k s (worker_asked w k s job leg p reply)
worker_replied w k s job leg p None hand = other_hand k s _ _ refl refl refl refl (omega (arith, hand))
worker_replied w k s job leg p (Some a) hand =
    other_hand k s _ _ refl refl refl refl (omega (arith, hand, pending_left (pending_of a.publisher leg a.answer a.effect)))

worker_asks : (w : WorldState) (k : ℕ) (s : WorkerState) (job : Job) (leg : Option ℕ) (p : ℕ) (call : DeskCall) (d : Option DeskState)
    (h : Happening) → hand_left s.hand ≡ 2 → WorkerAsks w k s job leg p call d h → Lessens k s h
worker_asks w k s job leg p call None h hand r = lessens_along k s h _ r (other_hand k s _ _ refl refl refl refl (omega (arith, hand)))
worker_asks w k s job leg p call (Some d) h hand r = lessens_along k s h _ r.2 (worker_replied w k s job leg p r.0 hand)

job_asks : (w : WorldState) (k : ℕ) (s : WorkerState) (job : Job) (leg : Option ℕ) (asked : Option (ℕ × DeskCall)) (h : Happening)
    → hand_left s.hand ≡ 2 → JobAsks w k s job leg asked h → Lessens k s h
job_asks w k s job leg None h hand r = lessens_along k s h _ r (other_hand k s _ _ refl refl refl refl (omega (arith, hand)))
job_asks w k s job leg (Some (p, call)) h hand r = worker_asks w k s job leg p call (slice_get w.desks p) h hand r

job_done : (w : WorldState) (k : ℕ) (s : WorkerState) (job : Job) (h : Happening) → hand_left s.hand ≡ 2 → DoesJob w k s job h → Lessens k s h
job_done w k s (Packet publisher bytes) h hand r = lessens_along k s h _ r (other_hand k s _ _ refl refl refl refl (omega (arith, hand)))
job_done w k s (Resend leg stay nack) h hand r = lessens_along k s h _ r (other_hand k s _ _ refl refl refl refl (omega (arith, hand)))
job_done w k s (Report leg stay sr) h hand r = lessens_along k s h _ r (other_hand k s _ _ refl refl refl refl (omega (arith, hand)))
job_done w k s (Goodbye leg) h hand r = lessens_along k s h _ r (other_hand k s _ _ refl refl refl refl (omega (arith, hand)))
job_done w k s (Request leg stay word) h hand r =
    job_asks w k s (Request leg stay word) (Some leg) (stay_call w.setup.table leg stay (change.Request r.0)) h hand r.2
job_done w k s (Pli leg moment) h hand r = job_asks w k s (Pli leg moment) None (picture_call w.setup.table leg moment) h hand r

on_hand : (w : WorldState) (k : ℕ) (s : WorkerState) (hand : Hand) (jobs : List Job) (h : Happening) → s.hand ≡ hand → s.jobs ≡ jobs
    → works_more hand jobs ≡ true → WorksOn w k s hand jobs h → Lessens k s h
on_hand w k s (telling p) jobs h is all more r =
    lessens_along k s h _ r (other_hand k s _ _ refl refl refl refl (omega (arith, ap hand_left is)))
on_hand w k s (doing job) jobs h is all more r = job_done w k s job h (ap hand_left is) r
on_hand w k s free [] h is all more r = cc
on_hand w k s free (job ∷ jobs) h is all more r =
    let d : Worked = record { worker = k; taken = job ∷ []; put = []; finished = []; hand = doing job; legs = s.legs } in
    let size : length (drop 1 s.jobs ++ []) ≡ length jobs = (λ i. length (drop 1 (all i) ++ [])) ∙ length-append jobs [] ∙ omega arith in
    let whole : length s.jobs ≡ length jobs + 1 = ap length all ∙ omega arith in
    lessens_along k s h _ r (record { worked = d; is = refl; at = refl; less = omega (arith, size, whole) })

lessens_world : (w : WorldState) (k : ℕ) (s : WorkerState) (h : Happening) → slice_get w.workers k ≡ Some s → Lessens k s h
    → work_left (world_after w h) k < work_left w k
lessens_world w k s h there l =
    let here : slice_index_or w.workers k no_worker ≡ s = get_or_from_slice_get w.workers k s no_worker there in
    let within : k < length w.workers = slice_get_within w.workers k s there in
    let after = λ (d : Worked). worker_after (slice_index_or w.workers d.worker no_worker) d in
    let workers : fold workers_by w.workers h.worked ≡ slice_set w.workers l.worked.worker (after l.worked) =
    ap (λ (ds : List Worked). fold workers_by w.workers ds) l.is in
    let place : slice_set w.workers l.worked.worker (worker_after (slice_index_or w.workers l.worked.worker no_worker) l.worked)
    ≡ slice_set w.workers k (worker_after s l.worked) =
    ap (λ (x : ℕ). slice_set w.workers x (worker_after (slice_index_or w.workers x no_worker) l.worked)) l.at
    ∙ ap (λ (x : WorkerState). slice_set w.workers k (worker_after x l.worked)) here in
    let state : slice_index_or (fold workers_by w.workers h.worked) k no_worker ≡ worker_after s l.worked =
    ap (λ (ws : List WorkerState). slice_index_or ws k no_worker) (workers ∙ place)
    ∙ get_or-set_same w.workers k (worker_after s l.worked) no_worker within in
    let less = l.less in
    let new : state_left (slice_index_or (fold workers_by w.workers h.worked) k no_worker) ≡ state_left (worker_after s l.worked) = ap state_left state in
    let old : work_left w k ≡ state_left s = ap state_left here in
    omega (arith, less, new, old)

works_falls : (w : WorldState) (k : ℕ) (s : Option WorkerState) (h : Happening) → slice_get w.workers k ≡ s → worker_has_work s ≡ true
    → Works w k s h → work_left (world_after w h) k < work_left w k
works_falls w k None h there more r = cc
works_falls w k (Some s) h there more r = lessens_world w k s h there (on_hand w k s s.hand s.jobs h refl refl more r)

pub work_falls : (w : WorldState) (k : ℕ) (next : WorldState) (before outs : List Out) → has_work w k ≡ true
    → HasRun (Work k ∷ []) w before next outs → work_left next k < work_left w k
work_falls w k next before outs more r =
    let s = step_of w (Work k) next before outs r in
    subst (λ (x : WorldState). work_left x k < work_left w k) (sym s.leads)
    (works_falls w k (slice_get w.workers k) s.happening refl more s.does)
