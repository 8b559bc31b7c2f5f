-- What a worker's step leaves, leaf by leaf.
use Rattle.std.proofs.Common.{◌≡◌, ℕ, ◌^◌, ◌<◌, ◌≤◌, List, [], ◌∷◌, ◌++◌, length, get_or, set, map, refl, sym, ap, subst, ◌∙◌}
use Rattle.std.proofs.lemmas.List.{append-nil, map-set, set-get_or}
use Rattle.std.proofs.lemmas.Option.{get_or_from_slice_get, slice_get-get_or, slice_get-map, slice_get_past}
use Rattle.std.specs.Prelude.{drop, slice_get, slice_set, slice_index_or, Option, None, Some, option_map, Result, Ok, Err, OnOk, OnErr}
use Rattle.std.specs.declared.alloc.AllocError.{AllocError}
use Rattle.members.specs.declared.order.Row.{Row}
use Rattle.desk.specs.declared.call.Call.{Call as DeskCall}
use Rattle.desk.specs.declared.call.Change.TheVariants as change
use Rattle.desk.specs.State.{DeskState}
use Rattle.events.specs.declared.job.Job.{Job}
use Rattle.events.specs.declared.job.Job.TheVariants.{Packet, Request, Resend, Pli, Report, Goodbye}
use Rattle.core_steps.specs.declared.machine.Worker.{Worker}
use Rattle.events.specs.declared.output.Out.{Out}
use Rattle.events.specs.declared.output.Out.TheVariants.{Idle}
use Rattle.desk_calls.specs.declared.calls.Asks.{Asks}
use Rattle.desk_calls.specs.declared.calls.Asks.TheVariants.{Desk, Nobody, Legs}
use Rattle.desk_calls.specs.declared.calls.Question.{Question}
use Rattle.core_steps.specs.Asking.{Asked, desks_after, pending_after, refusals_after}
use Rattle.desk_calls.specs.DeskCalls.{stay_call, picture_call, asks_by, AsksOf}
use Rattle.core_steps.specs.Happening.{RecordedCall, Worked, Happening, giving, no_worker, worker_after, workers_by, desks_by}
use Rattle.legs.specs.Legs.{job_datagrams, legs_after}
use Rattle.core_steps.specs.Machine.{worker_state}
use Rattle.desk_calls.specs.Notification.{notification_datagrams, Pending}
use Rattle.core_steps.specs.Rule.{WorksOn, Works, DoesJob, JobAsks, WorkerAsks, Replies, pending_datagrams, working, with_hand, taking, hand_of, forwarding, worker_asked}
use Rattle.core_steps.specs.Run.{Leaves, Stays}
use Rattle.core_steps.specs.WorkerSteps.{with_new_hand, IsDeskTold, world_with, world_after_step, StepsWorker}
use Rattle.core_steps.specs.World.{Setup, Hand, free, doing, telling, WorkerState, WorldState}
use Rattle.core_steps.proofs.RunLemmas.{settled, settled-same, giving-leads}

-- ---- the world after a step

abbrev working_in : WorldState → Worked → List DeskState → WorldState
working_in v d later = record v { desks = later; workers = workers_by v.workers d }

-- the worker's parts are those after what was done at it
pub turned-leads : (v : WorldState) (s : WorkerState) (d : Worked) (later : List DeskState) (next : WorkerState)
    → slice_get v.workers d.worker ≡ Some s → v.lost < 2 ^ 64 → v.tmmbns < 2 ^ 64 → next ≡ worker_after s d
    → world_after_step v d.worker later next ≡ settled (working_in v d later)
turned-leads v s d later next there lost tmmbns e =
    let at : slice_index_or v.workers d.worker no_worker ≡ s = get_or_from_slice_get v.workers d.worker s no_worker there in
    let is : next ≡ worker_after (slice_index_or v.workers d.worker no_worker) d = e ∙ sym (ap (λ (t : WorkerState). worker_after t d) at) in
    ap (λ (t : WorkerState). world_after_step v d.worker later t) is ∙ sym (settled-same (working_in v d later) lost tmmbns)

-- nothing was done at the worker
pub turned-same : (v : WorldState) (k : ℕ) (s next : WorkerState) → slice_get v.workers k ≡ Some s → next ≡ s
    → world_after_step v k v.desks next ≡ v
turned-same v k s next there e =
    let at : slice_index_or v.workers k no_worker ≡ s = get_or_from_slice_get v.workers k s no_worker there in
    let is : next ≡ slice_index_or v.workers k no_worker = e ∙ sym at in
    let same : slice_set v.workers k (slice_index_or v.workers k no_worker) ≡ v.workers = set-get_or v.workers k no_worker in
    ap (λ (t : WorkerState). world_after_step v k v.desks t) is
    ∙ ap (λ (workers : List WorkerState). record v { workers = workers }) same

-- ---- nothing in hand

pub idle-steps : (setup : Setup) (rows : List Row) (desks : List DeskState) (s next : WorkerState) (outs all : List Out)
    → s.hand ≡ free → s.jobs ≡ [] → next ≡ s → all ≡ outs ++ Idle ∷ [] → StepsWorker setup rows desks desks s next outs all
idle-steps setup rows desks s next outs all empty none same e w k there lost tmmbns =
    let v : WorldState = world_with w setup rows desks in
    record {
      happening = giving v (Idle ∷ []);
      allowed = subst (λ (hand : Hand). WorksOn v k s hand s.jobs (giving v (Idle ∷ []))) (sym empty)
          (subst (λ (jobs : List Job). WorksOn v k s free jobs (giving v (Idle ∷ []))) (sym none) refl);
      leads = turned-same v k s next there same ∙ giving-leads v (Idle ∷ []) lost tmmbns;
      given = e;
    }

abbrev with_jobs : WorkerState → List Job → Hand → WorkerState
with_jobs s jobs hand = record { jobs = jobs; hand = hand; legs = s.legs }

pub taking-steps : (setup : Setup) (rows : List Row) (desks : List DeskState) (s next : WorkerState) (outs all : List Out) (job : Job)
    (jobs : List Job) → s.hand ≡ free → s.jobs ≡ job ∷ jobs → next ≡ record { jobs = jobs; hand = doing job; legs = s.legs }
    → all ≡ outs → StepsWorker setup rows desks desks s next outs all
taking-steps setup rows desks s next outs all job jobs empty some is e w k there lost tmmbns =
    let v : WorldState = world_with w setup rows desks in
    let left : jobs ≡ drop 1 s.jobs ++ [] = sym (append-nil (drop 1 s.jobs) ∙ ap (λ (l : List Job). drop 1 l) some) in
    record {
      happening = working v (taking k s job) [];
      allowed = subst (λ (hand : Hand). WorksOn v k s hand s.jobs (working v (taking k s job) [])) (sym empty)
          (subst (λ (l : List Job). WorksOn v k s free l (working v (taking k s job) [])) (sym some) refl);
      leads = turned-leads v s (taking k s job) desks next there lost tmmbns
          (is ∙ ap (λ (l : List Job). with_jobs s l (doing job)) left);
      given = e ∙ sym (append-nil outs);
    }

-- ---- a notification in hand

abbrev with_rest : WorkerState → List Job → Hand → WorkerState
with_rest s jobs hand = record s { jobs = jobs; hand = hand }

-- the jobs in the ring stay
hand-after : (s next : WorkerState) (hand : Hand) → next ≡ with_new_hand s hand → next ≡ with_rest s (s.jobs ++ []) hand
hand-after s next hand is = is ∙ ap (λ (l : List Job). with_rest s l hand) (sym (append-nil s.jobs))

pub telling-steps : (setup : Setup) (rows : List Row) (desks : List DeskState) (s next : WorkerState) (outs all : List Out) (p : Pending)
    → s.hand ≡ telling p → next ≡ with_new_hand s free
    → all ≡ outs ++ notification_datagrams setup.table setup.unit rows p.notification p.effect
    → StepsWorker setup rows desks desks s next outs all
telling-steps setup rows desks s next outs all p full is e w k there lost tmmbns =
    let v : WorldState = world_with w setup rows desks in
    let h : Happening = working v (with_hand k s [] free) (pending_datagrams v p) in
    record {
      happening = h;
      allowed = subst (λ (hand : Hand). WorksOn v k s hand s.jobs h) (sym full) refl;
      leads = turned-leads v s (with_hand k s [] free) desks next there lost tmmbns (hand-after s next free is);
      given = e;
    }

-- ---- a job in hand

-- what an asked desk or nobody leaves
AsksBy : WorldState → ℕ → WorkerState → Job → Happening → Asks → Type 0
AsksBy v k s job h (Desk q) = WorkerAsks v k s job q.asked_by q.publisher q.call (slice_get v.desks q.publisher) h
AsksBy v k s job h Nobody = h ≡ working v (with_hand k s (job ∷ []) free) []
AsksBy v k s job h Legs = h ≡ forwarding v k s job

job-asks : (v : WorldState) (k : ℕ) (s : WorkerState) (job : Job) (h : Happening) (leg : Option ℕ) (r : Option (ℕ × DeskCall))
    → AsksBy v k s job h (asks_by leg r) → JobAsks v k s job leg r h
unfolding AsksBy
job-asks v k s job h leg None does = does
job-asks v k s job h leg (Some (p, call)) does = does

does-job : (v : WorldState) (k : ℕ) (s : WorkerState) (job : Job) (h : Happening) (asks : Asks)
    → AsksOf v.setup.table job asks → AsksBy v k s job h asks → DoesJob v k s job h
unfolding AsksBy
does-job v k s (Packet publisher bytes) h asks is does = subst (AsksBy v k s (Packet publisher bytes) h) is does
does-job v k s (Resend leg stay nack) h asks is does = subst (AsksBy v k s (Resend leg stay nack) h) is does
does-job v k s (Report leg stay sr) h asks is does = subst (AsksBy v k s (Report leg stay sr) h) is does
does-job v k s (Goodbye leg) h asks is does = subst (AsksBy v k s (Goodbye leg) h) is does
does-job v k s (Request leg stay word) h asks is does =
    (is.0, is.1, job-asks v k s (Request leg stay word) h (Some leg) (stay_call v.setup.table leg stay (change.Request is.0)) (subst (AsksBy v k s (Request leg stay word) h) is.2 does))
does-job v k s (Pli leg moment) h asks is does = job-asks v k s (Pli leg moment) h None (picture_call v.setup.table leg moment) (subst (AsksBy v k s (Pli leg moment) h) is does)

pub nobody-steps : (setup : Setup) (rows : List Row) (desks : List DeskState) (s next : WorkerState) (outs all : List Out) (job : Job)
    → s.hand ≡ doing job → AsksOf setup.table job Nobody → next ≡ with_new_hand s free → all ≡ outs
    → StepsWorker setup rows desks desks s next outs all
unfolding AsksBy
nobody-steps setup rows desks s next outs all job full asks is e w k there lost tmmbns =
    let v : WorldState = world_with w setup rows desks in
    let h : Happening = working v (with_hand k s (job ∷ []) free) [] in
    record {
      happening = h;
      allowed = subst (λ (hand : Hand). WorksOn v k s hand s.jobs h) (sym full) (does-job v k s job h Nobody asks refl);
      leads = turned-leads v s (with_hand k s (job ∷ []) free) desks next there lost tmmbns (hand-after s next free is);
      given = e ∙ sym (append-nil outs);
    }

abbrev with_legs : WorkerState → List Job → Job → List Row → WorkerState
with_legs s jobs job rows = record { jobs = jobs; hand = free; legs = legs_after rows s.legs job }

pub forwarding-steps : (setup : Setup) (rows : List Row) (desks : List DeskState) (s next : WorkerState) (outs all : List Out) (job : Job)
    → s.hand ≡ doing job → AsksOf setup.table job Legs → next ≡ record { jobs = s.jobs; hand = free; legs = legs_after rows s.legs job }
    → all ≡ outs ++ job_datagrams rows s.legs job → StepsWorker setup rows desks desks s next outs all
unfolding AsksBy
forwarding-steps setup rows desks s next outs all job full asks is e w k there lost tmmbns =
    let v : WorldState = world_with w setup rows desks in
    let d : Worked = record { worker = k; taken = []; put = []; finished = job ∷ []; hand = free; legs = legs_after rows s.legs job } in
    record {
      happening = forwarding v k s job;
      allowed = subst (λ (hand : Hand). WorksOn v k s hand s.jobs (forwarding v k s job)) (sym full)
          (does-job v k s job (forwarding v k s job) Legs asks refl);
      leads = turned-leads v s d desks next there lost tmmbns
          (is ∙ ap (λ (l : List Job). with_legs s l job rows) (sym (append-nil s.jobs)));
      given = e;
    }

-- the reply of a desk
replied-steps : (v : WorldState) (k : ℕ) (s next : WorkerState) (outs all : List Out) (job : Job) (q : Question)
    (d : DeskState) (later : List DeskState) (pending : Option Pending) (reply : Option RecordedCall)
    → slice_get v.workers k ≡ Some s → v.lost < 2 ^ 64 → v.tmmbns < 2 ^ 64
    → Replies q.publisher d q.call reply → later ≡ desks_after v.desks reply → pending ≡ pending_after q.asked_by reply
    → all ≡ outs ++ refusals_after reply → next ≡ with_new_hand s (hand_of pending)
    → Leaves (λ h. (r : Option RecordedCall) × Replies q.publisher d q.call r × (h ≡ worker_asked v k s job q.asked_by q.publisher r)) v outs
    (world_after_step v k later next) all
replied-steps v k s next outs all job q d later pending None there lost tmmbns replies becomes waits given is = record {
  happening = worker_asked v k s job q.asked_by q.publisher None;
  allowed = (None, replies, refl);
  leads = ap (λ (l : List DeskState). world_after_step v k l next) becomes
      ∙ turned-leads v s (with_hand k s (job ∷ []) free) v.desks next there lost tmmbns
      (hand-after s next free (is ∙ ap (λ (q : Option Pending). with_new_hand s (hand_of q)) waits));
  given = given;
}
replied-steps v k s next outs all job q d later pending (Some a) there lost tmmbns replies becomes waits given is = record {
  happening = worker_asked v k s job q.asked_by q.publisher (Some a);
  allowed = (Some a, replies, refl);
  leads = ap (λ (l : List DeskState). world_after_step v k l next) becomes
      ∙ turned-leads v s (with_hand k s (job ∷ []) (hand_of (pending_after q.asked_by (Some a)))) (desks_by v.desks a) next there lost tmmbns
      (hand-after s next (hand_of (pending_after q.asked_by (Some a))) (is ∙ ap (λ (q : Option Pending). with_new_hand s (hand_of q)) waits));
  given = given;
}

asked-steps-at : (v : WorldState) (k : ℕ) (s next : WorkerState) (outs all : List Out) (job : Job) (q : Question)
    (found : Option DeskState) (later : List DeskState) (pending : Option Pending)
    → slice_get v.workers k ≡ Some s → v.lost < 2 ^ 64 → v.tmmbns < 2 ^ 64
    → Asked q found v.desks later pending outs all → next ≡ with_new_hand s (hand_of pending)
    → Leaves (WorkerAsks v k s job q.asked_by q.publisher q.call found) v outs (world_after_step v k later next) all
asked-steps-at v k s next outs all job q None later pending there lost tmmbns asked is = record {
  happening = working v (with_hand k s (job ∷ []) free) [];
  allowed = refl;
  leads = ap (λ (l : List DeskState). world_after_step v k l next) asked.becomes
      ∙ turned-leads v s (with_hand k s (job ∷ []) free) v.desks next there lost tmmbns
      (hand-after s next free (is ∙ ap (λ (q : Option Pending). with_new_hand s (hand_of q)) asked.waits));
  given = asked.given ∙ sym (append-nil outs);
}
asked-steps-at v k s next outs all job q (Some d) later pending there lost tmmbns asked is =
    replied-steps v k s next outs all job q d later pending asked.reply there lost tmmbns asked.replies asked.becomes
    asked.waits asked.given is

pub asked-steps : (setup : Setup) (rows : List Row) (desks later : List DeskState) (s next : WorkerState) (outs all : List Out) (job : Job)
    (q : Question) → s.hand ≡ doing job → AsksOf setup.table job (Desk q) → IsDeskTold q desks later s next outs all
    → StepsWorker setup rows desks later s next outs all
unfolding AsksBy
asked-steps setup rows desks later s next outs all job q full asks told w k there lost tmmbns =
    let v : WorldState = world_with w setup rows desks in
    let did : Leaves (WorkerAsks v k s job q.asked_by q.publisher q.call (slice_get desks q.publisher)) v outs (world_after_step v k later next) all =
    asked-steps-at v k s next outs all job q (slice_get desks q.publisher) later told.pending there lost tmmbns told.asked told.worker in
    record {
      happening = did.happening;
      allowed = subst (λ (hand : Hand). WorksOn v k s hand s.jobs did.happening) (sym full)
          (does-job v k s job did.happening (Desk q) asks did.allowed);
      leads = did.leads;
      given = did.given;
    }

-- ---- the machine after a worker's step

abbrev with_both : WorldState → List DeskState → List WorkerState → WorldState
with_both w desks workers = record w { desks = desks; workers = workers }

pub step-lifts : (w : WorldState) (k : ℕ) (s next : WorkerState) (later : List DeskState) (new : WorldState) (outs all : List Out)
    → slice_get w.workers k ≡ Some s → w.lost < 2 ^ 64 → w.tmmbns < 2 ^ 64 → StepsWorker w.setup w.rows w.desks later s next outs all
    → new ≡ world_after_step w k later next → Leaves (Works w k (slice_get w.workers k)) w outs new all
step-lifts w k s next later new outs all there lost tmmbns steps is =
    let did : Leaves (WorksOn w k s s.hand s.jobs) w outs (world_after_step w k later next) all = steps w k there lost tmmbns in
    record {
      happening = did.happening;
      allowed = subst (λ (o : Option WorkerState). Works w k o did.happening) (sym there) did.allowed;
      leads = is ∙ did.leads;
      given = did.given;
    }

pub work-done : (w : WorldState) (k i : ℕ) (s next : WorkerState) (rows : List Row) (desks later left : List DeskState)
    (workers : List WorkerState) (outs some all : List Out) (r : Result (Unit {0}) AllocError)
    → i ≡ k → slice_get w.workers i ≡ Some s → w.lost < 2 ^ 64 → w.tmmbns < 2 ^ 64 → rows ≡ w.rows → desks ≡ w.desks → some ≡ outs
    → left ≡ later → workers ≡ set w.workers i next → OnOk r (StepsWorker w.setup rows desks later s next some all)
    → OnOk r (Leaves (Works w k (slice_get w.workers k)) w outs (record w { desks = left; workers = workers }) all)
work-done w k i s next rows desks later left workers outs some all (Err e) same there lost tmmbns er ed es el ew steps = tt
work-done w k i s next rows desks later left workers outs some all (Ok x) same there lost tmmbns er ed es el ew steps =
    let a : StepsWorker w.setup w.rows desks later s next some all =
    subst (λ (l : List Row). StepsWorker w.setup l desks later s next some all) er steps in
    let b : StepsWorker w.setup w.rows w.desks later s next some all =
    subst (λ (l : List DeskState). StepsWorker w.setup w.rows l later s next some all) ed a in
    let d : StepsWorker w.setup w.rows w.desks later s next outs all =
    subst (λ (l : List Out). StepsWorker w.setup w.rows w.desks later s next l all) es b in
    let at : slice_get w.workers k ≡ Some s = subst (λ (j : ℕ). slice_get w.workers j ≡ Some s) same there in
    let new : with_both w left workers ≡ world_after_step w k later next =
    ap (λ (l : List DeskState). with_both w l workers) el
    ∙ ap (λ (l : List WorkerState). with_both w later l) (ew ∙ ap (λ (j : ℕ). set w.workers j next) same) in
    step-lifts w k s next later (with_both w left workers) outs all at lost tmmbns d new

pub work-stays : (w : WorldState) (i : ℕ) (s next : WorkerState) (desks later left : List DeskState)
    (workers : List WorkerState) (outs some all : List Out) (r : Result (Unit {0}) AllocError)
    → slice_get w.workers i ≡ Some s → desks ≡ w.desks → some ≡ outs
    → left ≡ later → workers ≡ set w.workers i next → OnErr r ((later ≡ desks) × (next ≡ s) × (all ≡ some))
    → OnErr r (Stays w outs (record w { desks = left; workers = workers }) all)
work-stays w i s next desks later left workers outs some all (Ok x) there ed es el ew stays = tt
work-stays w i s next desks later left workers outs some all (Err e) there ed es el ew stays =
    let at : slice_index_or w.workers i no_worker ≡ s = get_or_from_slice_get w.workers i s no_worker there in
    let same : slice_set w.workers i (slice_index_or w.workers i no_worker) ≡ w.workers = set-get_or w.workers i no_worker in
    let ws : workers ≡ w.workers = ew ∙ (ap (λ (t : WorkerState). set w.workers i t) (stays.1 ∙ sym at) ∙ same) in (
      ap (λ (l : List DeskState). with_both w l workers) (el ∙ (stays.0 ∙ ed))
          ∙ ap (λ (l : List WorkerState). with_both w w.desks l) ws,
      stays.2 ∙ es,
    )

pub work-idle : (w : WorldState) (k i : ℕ) (workers : List WorkerState) (outs all : List Out)
    → i ≡ k → slice_get w.workers i ≡ None → w.lost < 2 ^ 64 → w.tmmbns < 2 ^ 64 → workers ≡ w.workers → all ≡ outs ++ Idle ∷ []
    → Leaves (Works w k (slice_get w.workers k)) w outs (record w { workers = workers }) all
work-idle w k i workers outs all same none lost tmmbns is e =
    let at : slice_get w.workers k ≡ None = subst (λ (j : ℕ). slice_get w.workers j ≡ None) same none in
    record {
      happening = giving w (Idle ∷ []);
      allowed = subst (λ (o : Option WorkerState). Works w k o (giving w (Idle ∷ []))) (sym at) refl;
      leads = ap (λ (l : List WorkerState). with_both w w.desks l) is ∙ giving-leads w (Idle ∷ []) lost tmmbns;
      given = e;
    }

pub worker-there : (workers slice : List Worker) (i : ℕ) (x : Worker) → slice ≡ workers → i < length slice
    → slice_get (map worker_state workers) i ≡ Some (worker_state (get_or slice i x))
worker-there workers slice i x same within =
    let at : slice_get slice i ≡ Some (get_or slice i x) = slice_get-get_or slice i x within in
    slice_get-map worker_state workers i
    ∙ ap (option_map worker_state) (ap (λ (l : List Worker). slice_get l i) (sym same) ∙ at)

pub worker-nowhere : (workers slice : List Worker) (i : ℕ) → slice ≡ workers → length slice ≤ i
    → slice_get (map worker_state workers) i ≡ None
worker-nowhere workers slice i same past =
    slice_get-map worker_state workers i
    ∙ ap (option_map worker_state) (ap (λ (l : List Worker). slice_get l i) (sym same) ∙ slice_get_past slice i past)

pub worker-set : (workers slice got : List Worker) (i : ℕ) (x : Worker) → slice ≡ workers → got ≡ set slice i x
    → map worker_state got ≡ set (map worker_state workers) i (worker_state x)
worker-set workers slice got i x same is =
    ap (map worker_state) (is ∙ ap (λ (l : List Worker). set l i x) same) ∙ map-set worker_state workers i x
