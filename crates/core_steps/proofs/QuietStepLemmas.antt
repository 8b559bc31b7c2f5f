-- Each event keeps what the quiet law speaks of.
use Rattle.std.proofs.Common.{◌≡◌, ℕ, zero, suc, ◌<◌, ◌≤◌, List, [], ◌∷◌, ◌++◌, length, drop, map, refl, sym, ap, subst, ◌∙◌, arith, Option, Some, None, Bool, true, false, inl, inr, Result, Ok, Err, append_assoc, append-nil}
use Rattle.std.specs.Prelude.{◌⊎◌, ◌==◌, ◌||◌, not, nat_le, MatchBool, slice_get, is_some, option_map, if◌then◌else◌, flat_map}
use Rattle.std.specs.List.{AllByRecursion}
use Rattle.std.proofs.lemmas.Bool.{eqb-true}
use Rattle.std.proofs.lemmas.Option.{none-some}
use Rattle.tmmbr_tuple.specs.declared.tuple.Tuple.{Tuple}
use Rattle.tmmbr_tuple.specs.Tuple.{word_of}
use Rattle.settings.specs.declared.fault.RoomFault.{RoomFault}
use Rattle.members.specs.declared.order.Order.TheVariants.{Arrive, Depart, Route}
use Rattle.settings.specs.declared.settings.LegSettings.{LegSettings}
use Rattle.members.specs.Calls.{Tick as RoomTick, Select as RoomSelect, step_of, room_of, room_after}
use Rattle.members.specs.Room.{RoomState, Step, tick_step, select_step}
use Rattle.settings.specs.Settings.{Configuration, IsInRange}
use Rattle.desk.specs.declared.call.Call.{Call as DeskCall}
use Rattle.desk.specs.declared.call.Call.TheVariants.{Time}
use Rattle.desk.specs.declared.call.Change.{Change}
use Rattle.desk.specs.declared.call.Change.TheVariants as change
use Rattle.desk.specs.declared.call.Signal.TheVariants as signal
use Rattle.desk.specs.State.{DeskState}
use Rattle.events.specs.declared.event.Event.{Event}
use Rattle.events.specs.declared.event.Event.TheVariants.{Hear, Tick, Select, Ingress, Work}
use Rattle.events.specs.declared.job.Job.{Job}
use Rattle.events.specs.declared.job.Job.TheVariants.{Packet, Request, Resend, Pli, Report, Goodbye}
use Rattle.events.specs.declared.output.Out.TheVariants.{Busy}
use Rattle.events.specs.declared.output.Refusal.{Refusal}
use Rattle.core_steps.specs.declared.ring.TheConstants.{JOB_LIMIT}
use Rattle.desk_calls.specs.DeskCalls.{stay_call}
use Rattle.core_steps.specs.Happening.{Happening, RecordedCall, Worked, giving, world_after, worker_after, workers_by, desks_by}
use Rattle.datagram.specs.Reads.{asks_of}
use Rattle.core_steps.specs.Hearing.{IsHearing, hearing, hearing_by, room_call, receptions, jobs_of, tasks_after, ticking, selecting_by, present_endpoints, expires, reports}
use Rattle.datagram.specs.Saying.{Said}
use Rattle.legs.specs.Legs.{legs_after}
use Rattle.settings.specs.Links.{LinkTable, table_of}
use Rattle.core_steps.specs.Opening.{setup_by}
use Rattle.core_steps.specs.Quiet.{HeardRate, HearsRates, IsHeardOf, rates_said, rates_in, rate_of}
use Rattle.core_steps.specs.Rule.{Does, DoesNext, DoesTask, DoesJob, Works, WorksOn, is_busy, is_empty, Replies, IngressAsks, OrderAsks, JobAsks, WorkerAsks, ingress_asked, worker_asked, pushing, putting, done_task, taking, working, with_hand, hand_of, forwarding}
use Rattle.core_steps.specs.World.{Setup, WorldState, WorkerState, Task, order, push, pulse, expire, report, Hand, free, doing, telling}
use Rattle.desk_calls.specs.Notification.{pending_of, Pending}
use Rattle.datagram.proofs.OneSaidLemmas.{says_one}
use Rattle.core_steps.proofs.QuietDeskLemmas.{NotBy}
use Rattle.core_steps.proofs.QuietLegLemmas.{asker, IsByLeg}
use Rattle.core_steps.proofs.QuietQueueLemmas.{hand_asks, jobs_asks, job_asks, task_asks, Tracks, IsWaiting, waiting_taken}
use Rattle.core_steps.proofs.QuietKeptLemmas.{IsPlaced, IsPlacedHand, IsPlacedWorker, stay_at, IsKept, desk_there, IsLegCall, IfLegCall, leg_call}
use Rattle.core_steps.proofs.QuietTakenLemmas.{IsFollowUp, follow-append, silent-after, silent-append, silent-moment, datagram_follows, received-like, kept-like, low_then, kept_taken}
use Rattle.core_steps.proofs.QuietTaskLemmas.{kept_pop, kept_told, kept_arrived, kept_departed, kept_unput, kept_put}
use Rattle.core_steps.proofs.QuietWorkLemmas.{kept_worked, kept_worked_told, kept_requested, kept_unasked}

abbrev pub KeptIn : Configuration → WorldState → List HeardRate → List RecordedCall → Type 0
KeptIn c w rates asked = IsKept c w.room.endpoints w.room.legs w.room.next w.tasks w.desks w.workers rates asked

some_none : {X : Type 0} (x : X) (xs : List X) → x ∷ xs ≡ [] → ⊥
some_none x xs e = let sizes = ap length e in absurd (omega (arith, sizes))

module _ (c : Configuration) (range : IsInRange c) (w : WorldState) (setup : w.setup ≡ setup_by c) (rates : List HeardRate) (asked : List RecordedCall)
    (kept : KeptIn c w rates asked) where
  -- if no history was full and no job was given up
  abbrev pub Keeps : List HeardRate → Happening → Type 0
  Keeps more h = h.unrecorded ≡ [] → h.given_up ≡ [] → KeptIn c (world_after w h) (rates ++ more) (asked ++ h.asked)

  along : (more : List HeardRate) (h k : Happening) → h ≡ k → Keeps more k → Keeps more h
  along more h k e g = subst (λ (x : Happening). Keeps more x) (sym e) g

  table : w.setup.table ≡ table_of c
  table = ap (λ (s : Setup). s.table) setup

  -- nothing more is heard
  quietly : (tasks : List Task) (desks : List DeskState) (workers : List WorkerState) (calls : List RecordedCall)
      → IsKept c w.room.endpoints w.room.legs w.room.next tasks desks workers rates calls
      → IsKept c w.room.endpoints w.room.legs w.room.next tasks desks workers (rates ++ []) calls
  quietly tasks desks workers calls h =
      subst (λ (rs : List HeardRate). IsKept c w.room.endpoints w.room.legs w.room.next tasks desks workers rs calls) (sym (append-nil rates)) h

  unasked : (tasks : List Task) (desks : List DeskState) (workers : List WorkerState)
      → IsKept c w.room.endpoints w.room.legs w.room.next tasks desks workers rates asked
      → IsKept c w.room.endpoints w.room.legs w.room.next tasks desks workers rates (asked ++ [])
  unasked tasks desks workers h =
      subst (λ (cs : List RecordedCall). IsKept c w.room.endpoints w.room.legs w.room.next tasks desks workers rates cs) (sym (append-nil asked)) h

  same_tasks : (desks : List DeskState) (workers : List WorkerState) (calls : List RecordedCall)
      → IsKept c w.room.endpoints w.room.legs w.room.next w.tasks desks workers rates calls
      → IsKept c w.room.endpoints w.room.legs w.room.next (w.tasks ++ []) desks workers (rates ++ []) calls
  same_tasks desks workers calls h =
      quietly (w.tasks ++ []) desks workers calls
      (subst (λ (ts : List Task). IsKept c w.room.endpoints w.room.legs w.room.next ts desks workers rates calls) (sym (append-nil w.tasks)) h)

  -- nothing was done
  still : IsKept c w.room.endpoints w.room.legs w.room.next (w.tasks ++ []) w.desks w.workers (rates ++ []) (asked ++ [])
  still = same_tasks w.desks w.workers (asked ++ []) (unasked w.tasks w.desks w.workers kept)

  -- ---- what is taken in

  idle_tasks : (p : Option Pending) (ts : List Task) → (is_some p || not (is_empty ts)) ≡ false → ts ≡ []
  idle_tasks p [] e = refl
  idle_tasks None (t ∷ ts) e = absurd (cc)
  idle_tasks (Some p) (t ∷ ts) e = absurd (cc)

  module _ (nothing : w.tasks ≡ []) where
    kept_idle : IsKept c w.room.endpoints w.room.legs w.room.next [] w.desks w.workers rates asked
    kept_idle = subst (λ (ts : List Task). IsKept c w.room.endpoints w.room.legs w.room.next ts w.desks w.workers rates asked) nothing kept

    taken : (r : RoomState) (made : List Task) (more : List HeardRate)
        → IsKept c r.endpoints r.legs r.next made w.desks w.workers (rates ++ more) asked
        → IsKept c r.endpoints r.legs r.next (w.tasks ++ made) w.desks w.workers (rates ++ more) (asked ++ [])
    taken r made more h =
        subst (λ (ts : List Task). IsKept c r.endpoints r.legs r.next (ts ++ made) w.desks w.workers (rates ++ more) (asked ++ [])) (sym nothing)
        (subst (λ (cs : List RecordedCall). IsKept c r.endpoints r.legs r.next made w.desks w.workers (rates ++ more) cs) (sym (append-nil asked)) h)

    heard_by : (moment endpoint : ℕ) (bytes : List ℕ) (said : Said) (r : Result Step RoomFault) → step_of w.room (room_call moment endpoint said) ≡ r
        → Keeps (rates_in w.setup.table endpoint said r) (hearing_by w moment endpoint bytes said r)
    heard_by moment endpoint bytes said (Err fault) e u g = still
    heard_by moment endpoint bytes said (Ok step) e u g =
        let call = room_call moment endpoint said in
        let follow : IsFollowUp c step.room (jobs_of w.setup.table step.room endpoint bytes said) (flat_map (rate_of w.setup.table step.room endpoint) (asks_of said))
        = subst (λ (t : LinkTable). IsFollowUp c step.room (jobs_of t step.room endpoint bytes said) (flat_map (rate_of t step.room endpoint) (asks_of said)))
        (sym table) (datagram_follows c step.room (low_then c w.room call step w.desks w.workers rates asked e kept_idle) endpoint bytes said) in
        let more : List HeardRate = flat_map (rate_of w.setup.table step.room endpoint) (asks_of said) in
        let jobs : List Task = jobs_of w.setup.table step.room endpoint bytes said in
        let first : List Task = tasks_after w.setup step in
        let made : List Task = map order step.orders ++ (first ++ jobs) in
        let new = kept_taken c w.room call step w.desks w.workers rates asked e kept_idle (first ++ jobs) more
        (follow-append c step.room first jobs more (silent-after c step.room w.setup step.room step.orders) follow) in
        let received = kept-like c step.room (room_after step.room (receptions endpoint said)) made w.desks w.workers (rates ++ more) asked
        (received-like step.room endpoint said) new in
        subst (λ (x : Result Step RoomFault).
        IsKept c (room_after (room_of w.room x) (receptions endpoint said)).endpoints (room_after (room_of w.room x) (receptions endpoint said)).legs
        (room_after (room_of w.room x) (receptions endpoint said)).next (w.tasks ++ made) w.desks w.workers (rates ++ more) (asked ++ [])) (sym e)
        (taken (room_after step.room (receptions endpoint said)) made more received)

    heard : (moment endpoint : ℕ) (bytes : List ℕ) (said : Result Said Refusal)
        → Keeps (rates_said w moment endpoint said) (hearing w moment endpoint bytes said)
    heard moment endpoint bytes (Err refusal) u g = still
    heard moment endpoint bytes (Ok said) u g =
        heard_by moment endpoint bytes said (step_of w.room (room_call moment endpoint said)) refl u g

    ticked : (moment : ℕ) → Keeps [] (ticking w moment)
    ticked moment u g =
        let step = tick_step w.room moment in
        let pulses : List Task = map pulse (present_endpoints w.setup.table step.room) in
        let first : List Task = tasks_after w.setup step in
        let due : List Task = pulses ++ (expires w.setup step.room ++ reports w step.room) in
        let rest : List Task = first ++ due in
        let new = kept_taken c w.room (RoomTick moment) step w.desks w.workers rates asked refl kept_idle rest []
        (silent-append c step.room first due (silent-after c step.room w.setup step.room step.orders) (silent-moment c w step.room)) in
        let joins : map order step.orders ++ rest
        ≡ (((map order step.orders ++ first) ++ pulses) ++ expires w.setup step.room) ++ reports w step.room
        = sym (append_assoc ((map order step.orders ++ first) ++ pulses) (expires w.setup step.room) (reports w step.room)
        ∙ append_assoc (map order step.orders ++ first) pulses (expires w.setup step.room ++ reports w step.room)
        ∙ append_assoc (map order step.orders) first due) in
        subst (λ (ts : List Task). IsKept c step.room.endpoints step.room.legs step.room.next (w.tasks ++ ts) w.desks w.workers (rates ++ []) (asked ++ []))
        joins (taken step.room (map order step.orders ++ rest) [] new)

    selected_by : (moment leg : ℕ) (on : Bool) (r : Result Step RoomFault) → step_of w.room (RoomSelect moment leg on) ≡ r
        → Keeps [] (selecting_by w moment leg on r)
    selected_by moment leg on (Err fault) e u g = still
    selected_by moment leg on (Ok step) e u g =
        let first : List Task = tasks_after w.setup step in
        let new = kept_taken c w.room (RoomSelect moment leg on) step w.desks w.workers rates asked e kept_idle first []
        (silent-after c step.room w.setup step.room step.orders) in
        subst (λ (x : Result Step RoomFault).
        IsKept c (room_of w.room x).endpoints (room_of w.room x).legs (room_of w.room x).next (w.tasks ++ (map order step.orders ++ first)) w.desks w.workers
        (rates ++ []) (asked ++ [])) (sym e)
        (taken step.room (map order step.orders ++ first) [] new)

  -- ---- the ingress

  module _ (t : Task) (ts : List Task) (e : w.tasks ≡ t ∷ ts) where
    kept_first : IsKept c w.room.endpoints w.room.legs w.room.next (t ∷ ts) w.desks w.workers rates asked
    kept_first = subst (λ (xs : List Task). IsKept c w.room.endpoints w.room.legs w.room.next xs w.desks w.workers rates asked) e kept

    popped : (desks : List DeskState) (workers : List WorkerState) (calls : List RecordedCall)
        → IsKept c w.room.endpoints w.room.legs w.room.next ts desks workers rates calls
        → IsKept c w.room.endpoints w.room.legs w.room.next (drop 1 w.tasks ++ []) desks workers (rates ++ []) calls
    popped desks workers calls h =
        quietly (drop 1 w.tasks ++ []) desks workers calls
        (subst (λ (xs : List Task). IsKept c w.room.endpoints w.room.legs w.room.next xs desks workers rates calls)
        (sym (append-nil ts) ∙ ap (λ (xs : List Task). drop 1 xs ++ []) (sym e)) h)

    popped_unasked : (workers : List WorkerState) → IsKept c w.room.endpoints w.room.legs w.room.next ts w.desks workers rates asked
        → IsKept c w.room.endpoints w.room.legs w.room.next (drop 1 w.tasks ++ []) w.desks workers (rates ++ []) (asked ++ [])
    popped_unasked workers h = popped w.desks workers (asked ++ []) (unasked ts w.desks workers h)

    -- a moment is told to a desk
    told : (p : ℕ) (call : DeskCall) (d : Option DeskState) (h : Happening) → IsByLeg c p call → ((owner : ℕ) → NotBy owner call)
        → ((n : ℕ) (bound now stands : ℕ) → Tracks n bound now (t ∷ ts) stands → Tracks n bound now ts stands)
        → ((n : ℕ) → task_asks n t ≡ [])
        → slice_get w.desks p ≡ d → IngressAsks w t p call d h → Keeps [] h
    told p call None h by nobody pass none at r =
        along [] h (done_task w t []) r
        (λ u g. popped_unasked w.workers
        (kept_pop c range w.room.endpoints w.room.legs w.room.next rates t ts w.desks w.workers asked (λ n l bound now stands _ x. pass n bound now stands x)
        (λ n l _. none n) kept_first))
    told p call (Some d) h by nobody pass none at r = along [] h (ingress_asked w t p r.0) r.2 (reply r.0 r.1)
      where
        reply : (o : Option RecordedCall) → Replies p d call o → Keeps [] (ingress_asked w t p o)
        reply None over u g = absurd (some_none p [] u)
        reply (Some a) recorded u g =
            popped (desks_by w.desks a) w.workers (asked ++ a ∷ [])
            (kept_told c range w.room.endpoints w.room.legs w.room.next rates w.desks asked p d call a at recorded t ts w.workers by pass none
            (λ l. inr (subst (λ (x : DeskCall). NotBy (asker c l) x) (sym recorded.names) (nobody (asker c l)))) kept_first)

  -- the desk of a leg's publisher is there
  asked_there : (m stay : ℕ) (ch : Change) (p : ℕ) (call : DeskCall) → IsLegCall c m stay ch p call → slice_get w.desks p ≡ None → ⊥
  asked_there m stay ch p call legs missing =
      let below = desk_there c m legs.leg w.desks range legs.there kept.desk_count in
      some_at w.desks legs.leg.publisher below (ap (slice_get w.desks) legs.from ∙ missing)
    where
      some_at : (xs : List DeskState) (k : ℕ) → k < length xs → slice_get xs k ≡ None → ⊥
      some_at [] k low none = absurd (omega arith)
      some_at (x ∷ xs) zero low none = none-some x (sym none)
      some_at (x ∷ xs) (suc k) low none = some_at xs k (omega arith) none

  nobody_tracks : (n : ℕ) (l : LegSettings) (m stay : ℕ) (P Q : Type 0) → slice_get c.legs n ≡ Some l → (stay ≡ 0) ⊎ (slice_get c.legs m ≡ None)
      → (P → 1 ≤ stay) → MatchBool (m == n) P Q → Q
  nobody_tracks n l m stay P Q at nobody some h = step (m == n) refl h
    where
      step : (b : Bool) → (m == n) ≡ b → MatchBool b P Q → Q
      step false e x = x
      step true e x = elim nobody [
        | inl none ↦ absurd (omega (arith, none, some x))
        | inr missing ↦ absurd (none-some l (sym missing ∙ (ap (slice_get c.legs) (eqb-true m n e) ∙ at)))
      ]

  arrives : (m stay : ℕ) (ts : List Task) (o : Option (ℕ × DeskCall)) (h : Happening) → w.tasks ≡ order (Arrive m stay) ∷ ts
      → IfLegCall c m stay change.Arrive o → OrderAsks w (order (Arrive m stay)) o h → Keeps [] h
  arrives m stay ts None h e nobody r =
      along [] h (done_task w (order (Arrive m stay)) []) r
      (λ u g. popped_unasked (order (Arrive m stay)) ts e w.workers
      (kept_pop c range w.room.endpoints w.room.legs w.room.next rates (order (Arrive m stay)) ts w.desks w.workers asked
      (λ n l bound now stands at x. nobody_tracks n l m stay ((now ≡ 0) × (1 ≤ stay) × Tracks n bound stay ts stands) (Tracks n bound now ts stands) at nobody
      (λ y. y.1) x.1)
      (λ n l _. refl) (kept_first (order (Arrive m stay)) ts e)))
  arrives m stay ts (Some (p, call)) h e legs r = asks (slice_get w.desks p) refl r
    where
      reply : (d : DeskState) → slice_get w.desks p ≡ Some d → (o : Option RecordedCall) → Replies p d call o
          → Keeps [] (ingress_asked w (order (Arrive m stay)) p o)
      reply d at None over u g = absurd (some_none p [] u)
      reply d at (Some a) recorded u g =
          popped (order (Arrive m stay)) ts e (desks_by w.desks a) w.workers (asked ++ a ∷ [])
          (kept_arrived c range w.room.endpoints w.room.legs w.room.next rates w.desks asked p d call a at recorded m stay ts w.workers legs
          (kept_first (order (Arrive m stay)) ts e))

      asks : (d : Option DeskState) → slice_get w.desks p ≡ d → IngressAsks w (order (Arrive m stay)) p call d h → Keeps [] h
      asks None at x = absurd (asked_there m stay change.Arrive p call legs at)
      asks (Some d) at x = along [] h (ingress_asked w (order (Arrive m stay)) p x.0) x.2 (reply d at x.0 x.1)

  departs : (m stay : ℕ) (ts : List Task) (o : Option (ℕ × DeskCall)) (h : Happening) → w.tasks ≡ order (Depart m stay) ∷ ts
      → IfLegCall c m stay change.Depart o → OrderAsks w (order (Depart m stay)) o h → Keeps [] h
  departs m stay ts None h e nobody r =
      along [] h (done_task w (order (Depart m stay)) []) r
      (λ u g. popped_unasked (order (Depart m stay)) ts e w.workers
      (kept_pop c range w.room.endpoints w.room.legs w.room.next rates (order (Depart m stay)) ts w.desks w.workers asked
      (λ n l bound now stands at x. nobody_tracks n l m stay ((now ≡ stay) × (1 ≤ stay) × Tracks n bound 0 ts stands) (Tracks n bound now ts stands) at nobody
      (λ y. y.1) x)
      (λ n l _. refl) (kept_first (order (Depart m stay)) ts e)))
  departs m stay ts (Some (p, call)) h e legs r = asks (slice_get w.desks p) refl r
    where
      reply : (d : DeskState) → slice_get w.desks p ≡ Some d → (o : Option RecordedCall) → Replies p d call o
          → Keeps [] (ingress_asked w (order (Depart m stay)) p o)
      reply d at None over u g = absurd (some_none p [] u)
      reply d at (Some a) recorded u g =
          popped (order (Depart m stay)) ts e (desks_by w.desks a) w.workers (asked ++ a ∷ [])
          (kept_departed c range w.room.endpoints w.room.legs w.room.next rates w.desks asked p d call a at recorded m stay ts w.workers legs
          (kept_first (order (Depart m stay)) ts e))

      asks : (d : Option DeskState) → slice_get w.desks p ≡ d → IngressAsks w (order (Depart m stay)) p call d h → Keeps [] h
      asks None at x = absurd (asked_there m stay change.Depart p call legs at)
      asks (Some d) at x = along [] h (ingress_asked w (order (Depart m stay)) p x.0) x.2 (reply d at x.0 x.1)

  either_way : (b : Bool) (x y : Happening) → (b ≡ true → Keeps [] x) → (b ≡ false → Keeps [] y) → Keeps [] (if b then x else y)
  either_way true x y i j = i refl
  either_way false x y i j = j refl

  pushes : (k : ℕ) (job : Job) (ts : List Task) (s : Option WorkerState) → w.tasks ≡ push k job ∷ ts → slice_get w.workers k ≡ s
      → Keeps [] (pushing w k job s)
  pushes k job ts None e f =
      λ u g. popped_unasked (push k job) ts e w.workers
      (kept_unput c range w.room.endpoints w.room.legs w.room.next rates k job ts w.desks w.workers asked f (kept_first (push k job) ts e))
  pushes k job ts (Some s) e f =
      either_way (nat_le JOB_LIMIT (length s.jobs)) _ _
      (λ _ u g. absurd (some_none (record { worker = k; job = job }) [] g))
      (λ _ u g. popped_unasked (push k job) ts e (workers_by w.workers (putting k s job))
      (kept_put c range w.room.endpoints w.room.legs w.room.next rates k s job ts w.desks w.workers asked f (kept_first (push k job) ts e)))

  does_task : (t : Task) (ts : List Task) (h : Happening) → w.tasks ≡ t ∷ ts → DoesTask w t h → Keeps [] h
  does_task (order (Arrive m stay)) ts h e r =
      arrives m stay ts (stay_call (table_of c) m stay change.Arrive) h e (leg_call c m stay change.Arrive)
      (subst (λ (t : LinkTable). OrderAsks w (order (Arrive m stay)) (stay_call t m stay change.Arrive) h) table r)
  does_task (order (Depart m stay)) ts h e r =
      departs m stay ts (stay_call (table_of c) m stay change.Depart) h e (leg_call c m stay change.Depart)
      (subst (λ (t : LinkTable). OrderAsks w (order (Depart m stay)) (stay_call t m stay change.Depart) h) table r)
  does_task (order (Route m stay turn on)) ts h e r =
      along [] h _ r
      (λ u g. popped_unasked (order (Route m stay turn on)) ts e w.workers
      (kept_pop c range w.room.endpoints w.room.legs w.room.next rates (order (Route m stay turn on)) ts w.desks w.workers asked
      (λ n l bound now stands _ x. x) (λ n l _. refl) (kept_first (order (Route m stay turn on)) ts e)))
  does_task (push k job) ts h e r = along [] h _ r (pushes k job ts (slice_get w.workers k) e refl)
  does_task (pulse p) ts h e r =
      told (pulse p) ts e p (Time w.room.moment signal.Tick) (slice_get w.desks p) h tt (λ o. tt) (λ n bound now stands x. x) (λ n. refl) refl r
  does_task (expire p) ts h e r =
      told (expire p) ts e p (Time w.room.moment signal.Expire) (slice_get w.desks p) h tt (λ o. tt) (λ n bound now stands x. x) (λ n. refl) refl r
  does_task (report p) ts h e r =
      along [] h _ r.does
      (λ u g. popped_unasked (report p) ts e w.workers
      (kept_pop c range w.room.endpoints w.room.legs w.room.next rates (report p) ts w.desks w.workers asked
      (λ n l bound now stands _ x. x) (λ n l _. refl) (kept_first (report p) ts e)))

  does_next : (p : Option Pending) (ts : List Task) (h : Happening) → w.tasks ≡ ts → DoesNext w p ts h → Keeps [] h
  does_next (Some p) ts h e r = along [] h _ r (λ u g. still)
  does_next None [] h e r = along [] h _ r (λ u g. still)
  does_next None (t ∷ ts) h e r = does_task t ts h e r

  -- ---- a worker

  module _ (k : ℕ) (s : WorkerState) (there : slice_get w.workers k ≡ Some s) where
    placed_was : IsPlacedWorker c k s
    placed_was = kept.workers_placed k s there

    placed_then : (hand : Hand) → IsPlacedHand c k hand → (jobs : List Job) → jobs ≡ s.jobs → AllByRecursion (IsPlaced c k) jobs
    placed_then hand h jobs same = subst (λ (js : List Job). AllByRecursion (IsPlaced c k) js) (sym same) placed_was.jobs

    frees : (before after : Hand) → s.hand ≡ before → ((n : ℕ) → hand_asks n before ≡ []) → ((n : ℕ) → hand_asks n after ≡ [])
        → (n stay : ℕ) (done : List (ℕ × ℕ))
        → IsWaiting n w.room.next (stay_at w.room.legs n) w.tasks (hand_asks n s.hand) (jobs_asks n s.jobs) rates stay done
        → IsWaiting n w.room.next (stay_at w.room.legs n) w.tasks (hand_asks n after) (jobs_asks n (s.jobs ++ [])) rates stay done
    frees before after held none empty n stay done x =
        subst (λ (js : List Job). IsWaiting n w.room.next (stay_at w.room.legs n) w.tasks (hand_asks n after) (jobs_asks n js) rates stay done)
        (sym (append-nil s.jobs))
        (subst (λ (xs : List (ℕ × ℕ)). IsWaiting n w.room.next (stay_at w.room.legs n) w.tasks xs (jobs_asks n s.jobs) rates stay done)
        (ap (λ (q : Hand). hand_asks n q) held ∙ (none n ∙ sym (empty n))) x)

    hand_empty : (p : Option Pending) (n : ℕ) → hand_asks n (hand_of p) ≡ []
    hand_empty None n = refl
    hand_empty (Some p) n = refl

    hand_placed : (p : Option Pending) → IsPlacedHand c k (hand_of p)
    hand_placed None = tt
    hand_placed (Some p) = tt

    -- it is done with what was in its hand, which asked no desk
    freed : (before : Hand) (at : Worked) → s.hand ≡ before → ((n : ℕ) → hand_asks n before ≡ []) → slice_get w.workers at.worker ≡ Some s
        → at.worker ≡ k → worker_after s at ≡ record s { jobs = s.jobs ++ []; hand = free; legs = at.legs }
        → IsKept c w.room.endpoints w.room.legs w.room.next w.tasks w.desks (workers_by w.workers at) rates asked
    freed before at held none here same is =
        kept_worked c range w.room.endpoints w.room.legs w.room.next rates at s w.tasks w.desks w.workers asked here
        (subst (λ (x : WorkerState). IsPlacedWorker c at.worker x) (sym is)
        (subst (λ (j : ℕ). IsPlacedWorker c j (record s { jobs = s.jobs ++ []; hand = free; legs = at.legs })) (sym same)
        (record { jobs = placed_then free tt (s.jobs ++ []) (append-nil s.jobs); hand = tt })))
        (λ n stay done x. subst (λ (q : WorkerState). IsWaiting n w.room.next (stay_at w.room.legs n) w.tasks (hand_asks n q.hand) (jobs_asks n q.jobs) rates stay done)
        (sym is) (frees before free held none (λ _. refl) n stay done x)) kept

    forwards : (job : Job) (h : Happening) → s.hand ≡ doing job → ((n : ℕ) → job_asks n job ≡ []) → h ≡ forwarding w k s job → Keeps [] h
    forwards job h held none r =
        along [] h _ r
        (λ u g. same_tasks w.desks _ (asked ++ []) (unasked w.tasks w.desks _
        (freed (doing job) (record { worker = k; taken = []; put = []; finished = job ∷ []; hand = free; legs = legs_after w.rows s.legs job }) held none there refl refl)))

    does_request : (m stay word : ℕ) (t : Tuple) (o : Option (ℕ × DeskCall)) (h : Happening) → s.hand ≡ doing (Request m stay word) → word_of t ≡ word
        → IfLegCall c m stay (change.Request t) o → JobAsks w k s (Request m stay word) (Some m) o h → Keeps [] h
    does_request m stay word t None h held means nobody r =
        along [] h _ r
        (λ u g. same_tasks w.desks _ (asked ++ []) (unasked w.tasks w.desks _
        (kept_unasked c range w.room.endpoints w.room.legs w.room.next rates m stay word (with_hand k s (Request m stay word ∷ []) free) s w.tasks w.workers there held
        (λ n. refl) (append-nil s.jobs) (record { jobs = placed_then free tt (s.jobs ++ []) (append-nil s.jobs); hand = tt }) w.desks asked nobody kept)))
    does_request m stay word t (Some (p, call)) h held means legs r = asks (slice_get w.desks p) refl r
      where
        reply : (d : DeskState) → slice_get w.desks p ≡ Some d → (o : Option RecordedCall) → Replies p d call o
            → Keeps [] (worker_asked w k s (Request m stay word) (Some m) p o)
        reply d at None over u g = absurd (some_none p [] u)
        reply d at (Some a) recorded u g =
            same_tasks (desks_by w.desks a) _ (asked ++ a ∷ [])
            (kept_requested c range w.room.endpoints w.room.legs w.room.next rates m stay word
            (with_hand k s (Request m stay word ∷ []) (hand_of (pending_of a.publisher (Some m) a.answer a.effect))) s w.tasks w.workers there held
            (λ n. hand_empty (pending_of a.publisher (Some m) a.answer a.effect) n) (append-nil s.jobs)
            (record { jobs = placed_then free tt (s.jobs ++ []) (append-nil s.jobs); hand = hand_placed (pending_of a.publisher (Some m) a.answer a.effect) })
            w.desks asked p d call a t at recorded legs means kept)

        asks : (d : Option DeskState) → slice_get w.desks p ≡ d → WorkerAsks w k s (Request m stay word) (Some m) p call d h → Keeps [] h
        asks None at x = absurd (asked_there m stay (change.Request t) p call legs at)
        asks (Some d) at x = along [] h _ x.2 (reply d at x.0 x.1)

    does_picture : (m moment : ℕ) (o : Option LegSettings) (h : Happening) → s.hand ≡ doing (Pli m moment)
        → JobAsks w k s (Pli m moment) None (option_map (λ (l : LegSettings). (l.publisher, Time moment signal.Pli)) o) h → Keeps [] h
    does_picture m moment None h held r =
        along [] h _ r
        (λ u g. same_tasks w.desks _ (asked ++ []) (unasked w.tasks w.desks _
        (freed (doing (Pli m moment)) (with_hand k s (Pli m moment ∷ []) free) held (λ n. refl) there refl refl)))
    does_picture m moment (Some l) h held r = asks (slice_get w.desks l.publisher) refl r
      where
        reply : (d : DeskState) → slice_get w.desks l.publisher ≡ Some d → (o : Option RecordedCall) → Replies l.publisher d (Time moment signal.Pli) o
            → Keeps [] (worker_asked w k s (Pli m moment) None l.publisher o)
        reply d at None over u g = absurd (some_none l.publisher [] u)
        reply d at (Some a) recorded u g =
            same_tasks (desks_by w.desks a) _ (asked ++ a ∷ [])
            (kept_worked_told c range w.room.endpoints w.room.legs w.room.next rates w.desks asked l.publisher d (Time moment signal.Pli) a at recorded tt
            (λ x. inr (subst (λ (y : DeskCall). NotBy (asker c x) y) (sym recorded.names) tt))
            (with_hand k s (Pli m moment ∷ []) (hand_of (pending_of a.publisher None a.answer a.effect))) s w.tasks w.workers there
            (record { jobs = placed_then free tt (s.jobs ++ []) (append-nil s.jobs); hand = hand_placed (pending_of a.publisher None a.answer a.effect) })
            (λ n stay done x. frees (doing (Pli m moment)) (hand_of (pending_of a.publisher None a.answer a.effect)) held (λ _. refl) (λ i. hand_empty (pending_of a.publisher None a.answer a.effect) i) n stay done x) kept)

        asks : (d : Option DeskState) → slice_get w.desks l.publisher ≡ d → WorkerAsks w k s (Pli m moment) None l.publisher (Time moment signal.Pli) d h → Keeps [] h
        asks None at x =
            along [] h _ x
            (λ u g. same_tasks w.desks _ (asked ++ []) (unasked w.tasks w.desks _
            (freed (doing (Pli m moment)) (with_hand k s (Pli m moment ∷ []) free) held (λ n. refl) there refl refl)))
        asks (Some d) at x = along [] h _ x.2 (reply d at x.0 x.1)

    does_job : (job : Job) (h : Happening) → s.hand ≡ doing job → DoesJob w k s job h → Keeps [] h
    does_job (Packet publisher bytes) h held r = forwards (Packet publisher bytes) h held (λ n. refl) r
    does_job (Resend leg stay nack) h held r = forwards (Resend leg stay nack) h held (λ n. refl) r
    does_job (Report leg stay sr) h held r = forwards (Report leg stay sr) h held (λ n. refl) r
    does_job (Goodbye leg) h held r = forwards (Goodbye leg) h held (λ n. refl) r
    does_job (Request m stay word) h held r =
        does_request m stay word r.0 (stay_call (table_of c) m stay (change.Request r.0)) h held r.1 (leg_call c m stay (change.Request r.0))
        (subst (λ (t : LinkTable). JobAsks w k s (Request m stay word) (Some m) (stay_call t m stay (change.Request r.0)) h) table r.2)
    does_job (Pli m moment) h held r = does_picture m moment (slice_get w.setup.table.legs m) h held r

    takes : (job : Job) (jobs : List Job) → s.hand ≡ free → s.jobs ≡ job ∷ jobs → Keeps [] (working w (taking k s job) [])
    takes job jobs held e u g =
        same_tasks w.desks _ (asked ++ []) (unasked w.tasks w.desks _
        (kept_worked c range w.room.endpoints w.room.legs w.room.next rates (taking k s job) s w.tasks w.desks w.workers asked there
        (record { jobs = subst (λ (js : List Job). AllByRecursion (IsPlaced c k) js) (sym rest) parts.1; hand = parts.0 })
        (λ n stay done x. subst (λ (js : List Job). IsWaiting n w.room.next (stay_at w.room.legs n) w.tasks (job_asks n job) (jobs_asks n js) rates stay done) (sym rest)
        (waiting_taken n (hand_asks n s.hand) (jobs_asks n s.jobs) rates stay done w.room.next (stay_at w.room.legs n) w.tasks (job_asks n job) (jobs_asks n jobs)
        (ap (λ (q : Hand). hand_asks n q) held) (ap (λ (js : List Job). jobs_asks n js) e) x)) kept))
      where
        rest : drop 1 s.jobs ++ [] ≡ jobs
        rest = append-nil (drop 1 s.jobs) ∙ ap (λ (js : List Job). drop 1 js) e

        parts : IsPlaced c k job × AllByRecursion (IsPlaced c k) jobs
        parts = subst (λ (js : List Job). AllByRecursion (IsPlaced c k) js) e placed_was.jobs

    works_on : (hand : Hand) (jobs : List Job) (h : Happening) → s.hand ≡ hand → s.jobs ≡ jobs → WorksOn w k s hand jobs h → Keeps [] h
    works_on (telling p) jobs h held e r =
        along [] h _ r
        (λ u g. same_tasks w.desks _ (asked ++ []) (unasked w.tasks w.desks _
        (freed (telling p) (with_hand k s [] free) held (λ n. refl) there refl refl)))
    works_on (doing job) jobs h held e r = does_job job h held r
    works_on free [] h held e r = along [] h _ r (λ u g. still)
    works_on free (job ∷ jobs) h held e r = along [] h _ r (takes job jobs held e)

  works : (k : ℕ) (s : Option WorkerState) (h : Happening) → slice_get w.workers k ≡ s → Works w k s h → Keeps [] h
  works k None h f r = along [] h _ r (λ u g. still)
  works k (Some s) h f r = works_on k s f s.hand s.jobs h refl refl r

  -- ---- an event

  silently : (more : List HeardRate) (h : Happening) → more ≡ [] → Keeps [] h → Keeps more h
  silently more h none g = subst (λ (x : List HeardRate). Keeps x h) (sym none) g

  unless_busy : (h : Happening) (P : Type 0) (b : Bool) → is_busy w ≡ b → (w.tasks ≡ [] → P → Keeps [] h)
      → MatchBool b (h ≡ giving w (Busy ∷ [])) P → Keeps [] h
  unless_busy h P true busy f r = along [] h _ r (λ u g. still)
  unless_busy h P false idle f r = f (idle_tasks w.pending w.tasks idle) r

  hears : (moment endpoint : ℕ) (bytes : List ℕ) (h : Happening) (more : List HeardRate) (b : Bool) → is_busy w ≡ b
      → MatchBool b (h ≡ giving w (Busy ∷ [])) (IsHearing w moment endpoint bytes h)
      → MatchBool b (more ≡ []) (IsHeardOf w moment endpoint bytes more) → Keeps more h
  hears moment endpoint bytes h more true busy r x = silently more h x (along [] h _ r (λ u g. still))
  hears moment endpoint bytes h more false idle r x =
      let same : x.said ≡ r.said = says_one _ bytes x.said r.said x.says r.says in
      subst (λ (y : List HeardRate). Keeps y h) (sym (x.is ∙ ap (λ (said : Result Said Refusal). rates_said w moment endpoint said) same))
      (along (rates_said w moment endpoint r.said) h (hearing w moment endpoint bytes r.said) r.does
      (heard (idle_tasks w.pending w.tasks idle) moment endpoint bytes r.said))

  pub keeps : (e : Event) (h : Happening) (more : List HeardRate) → Does w e h → HearsRates w e more → Keeps more h
  keeps (Hear moment endpoint bytes) h more r x = hears moment endpoint bytes h more (is_busy w) refl r x
  keeps (Tick moment) h more r x =
      silently more h x (unless_busy h (h ≡ ticking w moment) (is_busy w) refl (λ idle is. along [] h _ is (ticked idle moment)) r)
  keeps (Select moment leg on) h more r x =
      silently more h x
      (unless_busy h _ (is_busy w) refl
      (λ idle is. along [] h _ is (selected_by idle moment leg on (select_step w.room moment leg on) refl)) r)
  keeps Ingress h more r x = silently more h x (does_next w.pending w.tasks h refl r)
  keeps (Work k) h more r x = silently more h x (works k (slice_get w.workers k) h refl r)
