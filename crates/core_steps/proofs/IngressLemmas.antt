-- Each step of the ingress as a happening.
use Rattle.std.proofs.Common.{◌≡◌, ℕ, ◌^◌, ◌<◌, ◌≤◌, Bool, true, false, List, [], ◌∷◌, ◌++◌, length, get_or, refl, sym, ap, subst, ◌∙◌, arith}
use Rattle.std.proofs.lemmas.List.{append-nil, map-set, set_past}
use Rattle.std.proofs.lemmas.Bool.{ltb-false}
use Rattle.std.proofs.lemmas.Option.{slice_get-get_or, slice_get_past, slice_get-map, get_or_from_slice_get}
use Rattle.std.proofs.Math.Seq.{map-set_same}
use Rattle.std.specs.Prelude.{nat_le, nat_lt, drop, fold, map, slice_get, slice_set, option_map, Option, None, Some, Result, Ok, Err, if◌then◌else◌}
use Rattle.std.specs.Result.{OnOk}
use Rattle.std.specs.declared.alloc.AllocError.{AllocError}
use Rattle.members.specs.declared.order.Order.TheVariants.{Route}
use Rattle.members.specs.declared.order.Row.{Row}
use Rattle.members.specs.Presence.{source_at}
use Rattle.members.specs.Reception.{Block}
use Rattle.members.specs.Calls.{MakeBlock}
use Rattle.members.specs.Room.{RoomState, reception_at, after_block}
use Rattle.members.specs.Stream.{IsBlockAnswer}
use Rattle.desk.specs.declared.call.Call.{Call as DeskCall}
use Rattle.desk.specs.State.{DeskState}
use Rattle.members.specs.Rows.{changes_by, row_changed}
use Rattle.events.specs.declared.job.Job.{Job}
use Rattle.events.specs.declared.output.Out.{Out}
use Rattle.events.specs.declared.output.Out.TheVariants.{Send, Idle}
use Rattle.core_steps.specs.declared.ring.TheConstants.{JOB_LIMIT}
use Rattle.core_steps.specs.declared.machine.Worker.{Worker}
use Rattle.core_steps.specs.Machine.{worker_state}
use Rattle.core_steps.specs.Asking.{desks_after, pending_after, refusals_after, Asked}
use Rattle.core_steps.specs.Duties.{Reports}
use Rattle.desk_calls.specs.Head.{upstream_report}
use Rattle.core_steps.specs.World.{WorldState, WorkerState, Task, order, report}
use Rattle.desk_calls.specs.Notification.{Pending}
use Rattle.core_steps.specs.Happening.{RecordedCall, no_worker, giving, capped_count, world_after, workers_by}
use Rattle.core_steps.specs.Pushing.{Pushed}
use Rattle.core_steps.specs.Rule.{Replies, IngressAsks, AsksDesk, OrderAsks, DoesTask, DoesNext, IsReporting, done_task, ingress_asked, putting, pending_datagrams}
use Rattle.core_steps.specs.Run.{Leaves}
use Rattle.core_steps.proofs.AskingLemmas.{asking_of}

-- the parts of a world that the ingress changes
abbrev pub with_parts : WorldState → RoomState → List Task → Option Pending → List DeskState → List Row → List WorkerState → ℕ → ℕ → WorldState
with_parts w room tasks pending desks rows workers lost tmmbns = record {
  setup = w.setup;
  room = room;
  tasks = tasks;
  pending = pending;
  desks = desks;
  rows = rows;
  workers = workers;
  round = w.round;
  lost = lost;
  tmmbns = tmmbns;
}

-- what doing a task leaves, as the happening says it, is what the code leaves
settled : (w : WorldState) (room : RoomState) (tasks : List Task) (pending : Option Pending) (desks : List DeskState) (rows : List Row)
    (workers : List WorkerState) (lost more : ℕ)
    → tasks ≡ drop 1 w.tasks → lost ≡ capped_count w.lost more → w.tmmbns < 2 ^ 64
    → with_parts w room tasks pending desks rows workers lost w.tmmbns
    ≡ with_parts w room (drop 1 w.tasks ++ []) pending desks rows workers (capped_count w.lost more) (capped_count w.tmmbns 0)
settled w room tasks pending desks rows workers lost more is count fits =
    let same : w.tmmbns ≡ capped_count w.tmmbns 0 = omega arith in
    let left : tasks ≡ drop 1 w.tasks ++ [] = is ∙ sym (append-nil (drop 1 w.tasks)) in
    ap (λ (ts : List Task). with_parts w room ts pending desks rows workers lost w.tmmbns) left
    ∙ (ap (λ (n : ℕ). with_parts w room (drop 1 w.tasks ++ []) pending desks rows workers n w.tmmbns) count
    ∙ ap (λ (n : ℕ). with_parts w room (drop 1 w.tasks ++ []) pending desks rows workers (capped_count w.lost more) n) same)

counted-none : (n : ℕ) → n < 2 ^ 64 → n ≡ capped_count n 0
counted-none n fits = omega arith

-- ---- a desk

abbrev pub with_reply : WorldState → List Task → Option Pending → List DeskState → WorldState
with_reply w tasks pending desks = with_parts w w.room tasks pending desks w.rows w.workers w.lost w.tmmbns

reply_left : (w : WorldState) (t : Task) (p : ℕ) (call : DeskCall) (d : DeskState) (reply : Option RecordedCall)
    (tasks : List Task) (outs : List Out)
    → w.pending ≡ None → w.lost < 2 ^ 64 → w.tmmbns < 2 ^ 64 → tasks ≡ drop 1 w.tasks → Replies p d call reply
    → Leaves (IngressAsks w t p call (Some d)) w outs (with_reply w tasks (pending_after None reply) (desks_after w.desks reply)) (outs ++ refusals_after reply)
reply_left w t p call d None tasks outs idle lost tmmbns is over = record {
  happening = ingress_asked w t p None;
  allowed = (None, over, refl);
  leads = ap (λ (o : Option Pending). with_reply w tasks o w.desks) (sym idle)
      ∙ settled w w.room tasks w.pending w.desks w.rows w.workers w.lost 0 is (counted-none w.lost lost) tmmbns;
  given = refl;
}
reply_left w t p call d (Some a) tasks outs idle lost tmmbns is recorded = record {
  happening = ingress_asked w t p (Some a);
  allowed = (Some a, recorded, refl);
  leads = settled w w.room tasks (pending_after None (Some a)) (desks_after w.desks (Some a)) w.rows w.workers w.lost 0 is (counted-none w.lost lost) tmmbns;
  given = refl;
}

-- a task that names nobody
pub nobody_left : (w : WorldState) (t : Task) (tasks : List Task) (outs : List Out)
    → w.lost < 2 ^ 64 → w.tmmbns < 2 ^ 64 → tasks ≡ drop 1 w.tasks
    → Leaves (λ h. h ≡ done_task w t []) w outs (with_reply w tasks w.pending w.desks) outs
nobody_left w t tasks outs lost tmmbns is = record {
  happening = done_task w t [];
  allowed = refl;
  leads = settled w w.room tasks w.pending w.desks w.rows w.workers w.lost 0 is (counted-none w.lost lost) tmmbns;
  given = sym (append-nil outs);
}

asked_left : (w : WorldState) (t : Task) (p : ℕ) (call : DeskCall) (o : Option DeskState) (tasks : List Task)
    (pending : Option Pending) (desks : List DeskState) (outs all : List Out)
    → w.pending ≡ None → w.lost < 2 ^ 64 → w.tmmbns < 2 ^ 64 → tasks ≡ drop 1 w.tasks
    → Asked (asking_of p call) o w.desks desks pending outs all
    → Leaves (IngressAsks w t p call o) w outs (with_reply w tasks pending desks) all
asked_left w t p call None tasks pending desks outs all idle lost tmmbns is asked =
    let L : Option Pending → Type 0 = λ x. Leaves (IngressAsks w t p call None) w outs (with_reply w tasks x w.desks) outs in
    let D : List DeskState → Type 0 = λ x. Leaves (IngressAsks w t p call None) w outs (with_reply w tasks pending x) outs in
    let O : List Out → Type 0 = λ x. Leaves (IngressAsks w t p call None) w outs (with_reply w tasks pending desks) x in
    subst O (sym asked.given)
    (subst D (sym asked.becomes)
    (subst L (idle ∙ sym asked.waits) (nobody_left w t tasks outs lost tmmbns is)))
asked_left w t p call (Some d) tasks pending desks outs all idle lost tmmbns is asked =
    let reply = asked.reply in
    let L : Option Pending → Type 0 = λ x. Leaves (IngressAsks w t p call (Some d)) w outs (with_reply w tasks x (desks_after w.desks reply)) (outs ++ refusals_after reply) in
    let D : List DeskState → Type 0 = λ x. Leaves (IngressAsks w t p call (Some d)) w outs (with_reply w tasks pending x) (outs ++ refusals_after reply) in
    let O : List Out → Type 0 = λ x. Leaves (IngressAsks w t p call (Some d)) w outs (with_reply w tasks pending desks) x in
    subst O (sym asked.given)
    (subst D (sym asked.becomes)
    (subst L (sym asked.waits) (reply_left w t p call d reply tasks outs idle lost tmmbns is asked.replies)))

pub desk_asked : (w : WorldState) (t : Task) (p : ℕ) (call : DeskCall) (tasks : List Task) (pending : Option Pending) (desks : List DeskState)
    (outs all : List Out)
    → w.pending ≡ None → w.lost < 2 ^ 64 → w.tmmbns < 2 ^ 64 → tasks ≡ drop 1 w.tasks
    → Asked (asking_of p call) (slice_get w.desks p) w.desks desks pending outs all
    → Leaves (AsksDesk w t p call) w outs (with_reply w tasks pending desks) all
desk_asked w t p call tasks pending desks outs all idle lost tmmbns is asked =
    asked_left w t p call (slice_get w.desks p) tasks pending desks outs all idle lost tmmbns is asked

-- what an order asks
pub order_asks : (w new : WorldState) (t : Task) (o : Option (ℕ × DeskCall)) (p : ℕ) (call : DeskCall) (outs all : List Out)
    → o ≡ Some (p, call) → Leaves (AsksDesk w t p call) w outs new all → Leaves (OrderAsks w t o) w outs new all
order_asks w new t o p call outs all is leaves =
    let P : Option (ℕ × DeskCall) → Type 0 = λ x. Leaves (OrderAsks w t x) w outs new all in
    subst P (sym is) leaves

pub order_asks_nobody : (w new : WorldState) (t : Task) (o : Option (ℕ × DeskCall)) (outs all : List Out)
    → o ≡ None → Leaves (λ h. h ≡ done_task w t []) w outs new all → Leaves (OrderAsks w t o) w outs new all
order_asks_nobody w new t o outs all is leaves =
    let P : Option (ℕ × DeskCall) → Type 0 = λ x. Leaves (OrderAsks w t x) w outs new all in
    subst P (sym is) leaves

-- ---- the oldest task

pub does_none : (w : WorldState) (tasks : List Task) (outs all : List Out) → w.lost < 2 ^ 64 → w.tmmbns < 2 ^ 64 → tasks ≡ []
    → all ≡ outs ++ Idle ∷ [] → Leaves (DoesNext w None tasks) w outs w all
does_none w tasks outs all lost tmmbns is given =
    let P : List Task → Type 0 = λ ts. Leaves (DoesNext w None ts) w outs w all in
    let same : w ≡ world_after w (giving w (Idle ∷ [])) =
    ap (λ (ts : List Task). with_parts w w.room ts w.pending w.desks w.rows w.workers w.lost w.tmmbns) (sym (append-nil w.tasks))
    ∙ (ap (λ (n : ℕ). with_parts w w.room (w.tasks ++ []) w.pending w.desks w.rows w.workers n w.tmmbns) (counted-none w.lost lost)
    ∙ ap (λ (n : ℕ). with_parts w w.room (w.tasks ++ []) w.pending w.desks w.rows w.workers (capped_count w.lost 0) n) (counted-none w.tmmbns tmmbns)) in
    let idles : Leaves (DoesNext w None []) w outs w all =
    record { happening = giving w (Idle ∷ []); allowed = refl; leads = same; given = given } in
    subst P (sym is) idles

pub does_oldest : (w new : WorldState) (t : Task) (tasks rest : List Task) (outs all : List Out)
    → tasks ≡ t ∷ rest → Leaves (DoesTask w t) w outs new all → Leaves (DoesNext w None tasks) w outs new all
does_oldest w new t tasks rest outs all is leaves =
    let P : List Task → Type 0 = λ ts. Leaves (DoesNext w None ts) w outs new all in
    subst P (sym is) leaves

pub does_next : (w new : WorldState) (tasks : List Task) (waits p : Option Pending) (outs all : List Out)
    → waits ≡ p → Leaves (DoesNext w p tasks) w outs new all → Leaves (DoesNext w waits tasks) w outs new all
does_next w new tasks waits p outs all is leaves =
    let P : Option Pending → Type 0 = λ x. Leaves (DoesNext w x tasks) w outs new all in
    subst P (sym is) leaves

-- the notification that waits is told
pub told : (w : WorldState) (p : Pending) (outs all : List Out) → w.lost < 2 ^ 64 → w.tmmbns < 2 ^ 64
    → all ≡ outs ++ pending_datagrams w p
    → Leaves (DoesNext w (Some p) w.tasks) w outs (with_reply w w.tasks None w.desks) all
told w p outs all lost tmmbns given = record {
  happening = record (giving w (pending_datagrams w p)) { pending = None };
  allowed = refl;
  leads =
      ap (λ (ts : List Task). with_parts w w.room ts None w.desks w.rows w.workers w.lost w.tmmbns) (sym (append-nil w.tasks))
      ∙ (ap (λ (n : ℕ). with_parts w w.room (w.tasks ++ []) None w.desks w.rows w.workers n w.tmmbns) (counted-none w.lost lost)
      ∙ ap (λ (n : ℕ). with_parts w w.room (w.tasks ++ []) None w.desks w.rows w.workers (capped_count w.lost 0) n) (counted-none w.tmmbns tmmbns));
  given = given;
}

-- ---- a row

row_put_if : (rows : List Row) (leg : ℕ) (row : Row) (there : Bool) → nat_lt leg (length rows) ≡ there
    → slice_set rows leg row ≡ fold row_changed rows (if there then record { leg = leg; row = row } ∷ [] else [])
row_put_if rows leg row true is = refl
row_put_if rows leg row false is = set_past rows leg row (ltb-false leg (length rows) is)

row_put : (rows : List Row) (leg stay turn : ℕ) (on : Bool)
    → slice_set rows leg (record { stay = stay; turn = turn; on = on }) ≡ fold row_changed rows (changes_by (length rows) (Route leg stay turn on))
row_put rows leg stay turn on =
    row_put_if rows leg (record { stay = stay; turn = turn; on = on }) (nat_lt leg (length rows)) refl

pub routed : (w : WorldState) (leg stay turn : ℕ) (on : Bool) (tasks : List Task) (rows : List Row) (outs : List Out)
    → w.lost < 2 ^ 64 → w.tmmbns < 2 ^ 64 → tasks ≡ drop 1 w.tasks
    → rows ≡ slice_set w.rows leg (record { stay = stay; turn = turn; on = on })
    → Leaves (DoesTask w (order (Route leg stay turn on))) w outs (with_parts w w.room tasks w.pending w.desks rows w.workers w.lost w.tmmbns) outs
routed w leg stay turn on tasks rows outs lost tmmbns is put =
    let after = fold row_changed w.rows (changes_by (length w.rows) (Route leg stay turn on)) in
    record {
      happening = record (done_task w (order (Route leg stay turn on)) []) { changes = changes_by (length w.rows) (Route leg stay turn on) };
      allowed = refl;
      leads = ap (λ (rs : List Row). with_parts w w.room tasks w.pending w.desks rs w.workers w.lost w.tmmbns) (put ∙ row_put w.rows leg stay turn on)
          ∙ settled w w.room tasks w.pending w.desks after w.workers w.lost 0 is (counted-none w.lost lost) tmmbns;
      given = sym (append-nil outs);
    }

-- ---- a job

-- the states of the workers, with this as that of one from then on
ring_put : (workers : List Worker) (k : ℕ) (d : Worker) (job : Job) (jobs : List Job) (full : Bool) → k < length workers
    → jobs ≡ (if full then (get_or workers k d).jobs else (get_or workers k d).jobs ++ job ∷ [])
    → map worker_state (slice_set workers k (record (get_or workers k d) { jobs = jobs }))
    ≡ (if full then map worker_state workers else workers_by (map worker_state workers) (putting k (worker_state (get_or workers k d)) job))
ring_put workers k d job jobs true within is =
    let w = get_or workers k d in
    let same : worker_state (record w { jobs = jobs }) ≡ worker_state w =
    ap (λ (js : List Job). worker_state (record w { jobs = js })) is in
    map-set_same worker_state workers k (record w { jobs = jobs }) d same
ring_put workers k d job jobs false within is =
    let w = get_or workers k d in
    let all = map worker_state workers in
    let at : slice_get workers k ≡ Some w = slice_get-get_or workers k d within in
    let at_state : slice_get all k ≡ Some (worker_state w) =
    slice_get-map worker_state workers k ∙ ap (λ (o : Option Worker). option_map worker_state o) at in
    let here : get_or all k no_worker ≡ worker_state w = get_or_from_slice_get all k (worker_state w) no_worker at_state in
    let after : WorkerState → WorkerState = λ s. record { jobs = s.jobs ++ job ∷ []; hand = (worker_state w).hand; legs = (worker_state w).legs } in
    map-set worker_state workers k (record w { jobs = jobs })
    ∙ (ap (λ (js : List Job). slice_set all k (worker_state (record w { jobs = js }))) is
    ∙ ap (λ (s : WorkerState). slice_set all k (after s)) (sym here))

pub pushed_there : (workers : List Worker) (k at : ℕ) (d : Worker) (job : Job) (jobs : List Job) (full : Bool) → at ≡ k → at < length workers
    → full ≡ nat_le JOB_LIMIT (length (get_or workers at d).jobs)
    → jobs ≡ (if full then (get_or workers at d).jobs else (get_or workers at d).jobs ++ job ∷ [])
    → Pushed k job (map worker_state workers) (slice_get (map worker_state workers) k) full
    (map worker_state (slice_set workers at (record (get_or workers at d) { jobs = jobs })))
pushed_there workers k at d job jobs full same within may is =
    let w = get_or workers at d in
    let all = map worker_state workers in
    let new = map worker_state (slice_set workers at (record w { jobs = jobs })) in
    let here : slice_get all at ≡ Some (worker_state w) =
    slice_get-map worker_state workers at ∙ ap (λ (o : Option Worker). option_map worker_state o) (slice_get-get_or workers at d within) in
    let P : Option WorkerState → Type 0 = λ o. Pushed at job all o full new in
    let Q : ℕ → Type 0 = λ i. Pushed i job all (slice_get all i) full new in
    subst Q same (subst P (sym here) (may, ring_put workers at d job jobs full within is))

pub pushed_nowhere : (workers : List Worker) (k at : ℕ) (job : Job) → at ≡ k → length workers ≤ at
    → Pushed k job (map worker_state workers) (slice_get (map worker_state workers) k) false (map worker_state workers)
pushed_nowhere workers k at job same past =
    let all = map worker_state workers in
    let nobody : slice_get all at ≡ None =
    slice_get-map worker_state workers at ∙ ap (λ (o : Option Worker). option_map worker_state o) (slice_get_past workers at past) in
    let P : Option WorkerState → Type 0 = λ o. Pushed at job all o false all in
    let Q : ℕ → Type 0 = λ i. Pushed i job all (slice_get all i) false all in
    subst Q same (subst P (sym nobody) (refl, refl))

-- ---- a report

pub reported : (w : WorldState) (p : ℕ) (block : Option Block) (room : RoomState) (tasks : List Task) (outs all : List Out)
    → w.lost < 2 ^ 64 → w.tmmbns < 2 ^ 64 → tasks ≡ drop 1 w.tasks
    → IsBlockAnswer (reception_at w.room p) w.room.moment (source_at w.room.endpoints p) block
    → room ≡ after_block w.room p → all ≡ outs ++ upstream_report w.setup.unit p block
    → Leaves (IsReporting w p) w outs (with_parts w room tasks w.pending w.desks w.rows w.workers w.lost w.tmmbns) all
reported w p block room tasks outs all lost tmmbns is answer becomes given = record {
  happening = record (done_task w (report p) (upstream_report w.setup.unit p block)) { calls = MakeBlock p ∷ [] };
  allowed = record { block = block; answer = answer; does = refl };
  leads = ap (λ (r : RoomState). with_parts w r tasks w.pending w.desks w.rows w.workers w.lost w.tmmbns) becomes
      ∙ settled w (after_block w.room p) tasks w.pending w.desks w.rows w.workers w.lost 0 is (counted-none w.lost lost) tmmbns;
  given = given;
}

-- the same, if the report was written before the task was done
pub reported_by : (w v : WorldState) (p : ℕ) (bytes : List ℕ) (tasks : List Task) (outs all : List Out)
    → w.lost < 2 ^ 64 → w.tmmbns < 2 ^ 64 → Reports w p v bytes → tasks ≡ drop 1 v.tasks → all ≡ outs ++ Send p bytes ∷ []
    → Leaves (IsReporting w p) w outs (record v { tasks = tasks }) all
reported_by w v p bytes tasks outs all lost tmmbns r is given =
    let was : drop 1 v.tasks ≡ drop 1 w.tasks = ap (λ (s : WorldState). drop 1 s.tasks) r.room in
    let left : record v { tasks = tasks }
    ≡ with_parts w (after_block w.room p) tasks w.pending w.desks w.rows w.workers w.lost w.tmmbns =
    ap (λ (s : WorldState). record s { tasks = tasks }) r.room in
    let L : WorldState → Type 0 = λ s. Leaves (IsReporting w p) w outs s all in
    subst L (sym left)
    (reported w p r.block (after_block w.room p) tasks outs all lost tmmbns (is ∙ was) r.answer refl
    (given ∙ ap (λ (b : List ℕ). outs ++ Send p b ∷ []) r.datagram))

-- ---- steps that may fail

pub on_ok : (r : Result (Unit {0}) AllocError) (P Q : Type 0) → (P → Q) → OnOk r P → OnOk r Q
on_ok (Ok x) P Q f p = f p
on_ok (Err e) P Q f p = tt
