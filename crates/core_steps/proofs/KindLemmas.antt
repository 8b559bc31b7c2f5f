-- What every happening is like, by one case analysis of the rule.
use Rattle.std.proofs.Common.{◌≡◌, ℕ, List, [], ◌∷◌, ◌++◌, length, drop, Bool, true, false, Option, None, Some, Result, Ok, Err, ◌⊎◌, ◌+◌, ◌≤◌, refl, ap, sym, ◌∙◌, subst, append-nil, inl, inr, arith}
use Rattle.std.proofs.lemmas.Bool.{cond-false, leb-true}
use Rattle.std.proofs.lemmas.Bool.Decides.{leb_tells}
use Rattle.std.proofs.lemmas.List.{map-id}
use Rattle.std.specs.Prelude.{slice_get, MatchBool, filter, nat_le, fold, if◌then◌else◌}
use Rattle.std.specs.List.{AllByRecursion, flat_map}
use Rattle.members.specs.declared.order.Order.{Order}
use Rattle.members.specs.declared.order.Order.TheVariants.{Arrive, Depart, Route}
use Rattle.settings.specs.declared.fault.RoomFault.{RoomFault}
use Rattle.members.specs.Room.{Step, select_step, tick_step}
use Rattle.members.specs.Calls.{step_of, room_after, room_of, orders_of, orders_after}
use Rattle.desk.specs.declared.call.Call.{Call as DeskCall}
use Rattle.desk.specs.declared.call.Call.TheVariants.{Time}
use Rattle.desk.specs.declared.call.Signal.TheVariants as signal
use Rattle.desk.specs.State.{DeskState}
use Rattle.events.specs.declared.event.Event.{Event}
use Rattle.events.specs.declared.event.Event.TheVariants.{Hear, Tick, Select, Ingress, Work}
use Rattle.events.specs.declared.job.Job.{Job}
use Rattle.events.specs.declared.job.Job.TheVariants.{Packet, Request, Resend, Pli, Report, Goodbye}
use Rattle.events.specs.declared.output.Out.{Out}
use Rattle.events.specs.declared.output.Refusal.{Refusal}
use Rattle.events.specs.declared.output.Out.TheVariants.{Busy, Lost}
use Rattle.core_steps.specs.declared.ring.TheConstants.{JOB_LIMIT}
use Rattle.core_steps.specs.Happening.{Happening, RecordedCall, GivenUp, Worked, giving}
use Rattle.core_steps.specs.Laws.{TellsLegalDesk, IsGivenUpFull}
use Rattle.core_steps.specs.Hearing.{IsHearing, hearing, hearing_by, ticking, room_call, receptions, selecting_by, jobs_of, reports, round_after, tasks_after}
use Rattle.datagram.specs.Saying.{Said, media, leaves, control}
use Rattle.legs.specs.Legs.{legs_after}
use Rattle.core_steps.specs.Reports.{MakesDueReports, is_report, is_tick}
use Rattle.core_steps.specs.Rule.{Does, DoesNext, DoesTask, DoesJob, Works, WorksOn, is_busy, Replies, IngressAsks, OrderAsks, JobAsks, WorkerAsks, ingress_asked, worker_asked, pushing, putting, done_task, taking, working, with_hand, forwarding, hand_of}
use Rattle.core_steps.specs.World.{WorldState, WorkerState, Task, order, push, pulse, expire, report, Hand, free, doing, telling}
use Rattle.desk_calls.specs.Notification.{pending_of, Pending}
use Rattle.core_steps.proofs.DueLemmas.{all_ticked, none_selected, none_taken}
use Rattle.core_steps.proofs.CauseLemmas.{AsksAsDone, AsksThere, AskedByJob, Causes, asked_by_task, finished_in, in_hand, orders_in, orders_first, orders_ticked, none_after, none_append, none_heard, none_received}

-- What was done at a worker: it is there, it took its oldest jobs, and there was room for those that it was given; it finished what
-- it had in hand, and has in hand what it took; its legs are as the jobs that it finished leave them.
pub record IsAt (w : WorldState) (d : Worked) : Type 0 where
  pub state : WorkerState
  pub there : slice_get w.workers d.worker ≡ Some state
  pub taken : d.taken ++ drop (length d.taken) state.jobs ≡ state.jobs
  pub room : (d.put ≡ []) ⊎ (length state.jobs + length d.put ≤ JOB_LIMIT)
  pub hand : d.finished ++ in_hand d.hand ≡ in_hand state.hand ++ d.taken
  pub legs : d.legs ≡ fold (legs_after w.rows) state.legs d.finished

-- nothing was done at workers, or something at one
abbrev pub IsAtOne : WorldState → List Worked → Type 0
IsAtOne w [] = Unit {0}
IsAtOne w (d ∷ []) = IsAt w d
IsAtOne w (d ∷ (e ∷ ds)) = ⊥

-- It did nothing that waits, or the first task that waits; the desks that it asked are legal, and what it tells is announced; it
-- worked at one worker at most; it gave up jobs of full rings alone; the orders that it made are those of the room's calls, and the
-- reports those that are due; and it asked the desk that what it did asks.
pub record IsKind (w : WorldState) (h : Happening) : Type 0 where
  pub did : h.did ++ drop (length h.did) w.tasks ≡ w.tasks
  pub asked : AllByRecursion TellsLegalDesk h.asked
  pub worked : IsAtOne w h.worked
  pub given_up : AllByRecursion (IsGivenUpFull w) h.given_up
  pub orders : orders_in h.made ≡ orders_after w.room h.calls
  pub asks : AsksAsDone w h
  pub reports : MakesDueReports w h

-- no report was made, and no moment taken in
untold : (w : WorldState) (h : Happening) → is_tick h.calls ≡ false → h.round ≡ w.round → filter is_report h.made ≡ [] → MakesDueReports w h
untold w h untick same none = record {
  round = same ∙ sym (cond-false (is_tick h.calls) (round_after w (room_after w.room h.calls)) w.round untick);
  reports = none ∙ sym (cond-false (is_tick h.calls) (reports w (room_after w.room h.calls)) [] untick);
}

-- nothing was done, so that nobody was asked
idle_asks : (w : WorldState) (h : Happening) → h.did ≡ [] → h.asked ≡ [] → h.unrecorded ≡ [] → h.worked ≡ [] → AsksAsDone w h
idle_asks w h d a u k = record {
  who = None;
  cause = subst (λ (ts : List Task). Causes w ts (finished_in h) None) (sym d)
      (subst (λ (ds : List Worked). Causes w [] (flat_map (λ (x : Worked). x.finished) ds) None) (sym k) refl);
  asks = record { asked = a; unrecorded = u };
}

-- nothing was done but given out, or taken in
idle_kind : (w : WorldState) (h : Happening) → h.did ≡ [] → h.asked ≡ [] → h.unrecorded ≡ [] → h.worked ≡ [] → h.given_up ≡ []
    → orders_in h.made ≡ orders_after w.room h.calls → MakesDueReports w h → IsKind w h
idle_kind w h d a u k g o told = record {
  did = subst (λ (ts : List Task). ts ++ drop (length ts) w.tasks ≡ w.tasks) (sym d) refl;
  asked = subst (λ (xs : List RecordedCall). AllByRecursion TellsLegalDesk xs) (sym a) tt;
  worked = subst (λ (ds : List Worked). IsAtOne w ds) (sym k) tt;
  given_up = subst (λ (gs : List GivenUp). AllByRecursion (IsGivenUpFull w) gs) (sym g) tt;
  orders = o;
  asks = idle_asks w h d a u k;
  reports = told;
}

giving_kind : (w : WorldState) (outs : List Out) → IsKind w (giving w outs)
giving_kind w outs = idle_kind w (giving w outs) refl refl refl refl refl refl (untold w (giving w outs) refl refl refl)

first_done : (w : WorldState) (t : Task) (ts : List Task) → w.tasks ≡ t ∷ ts → t ∷ drop 1 w.tasks ≡ w.tasks
first_done w t ts e = subst (λ (xs : List Task). t ∷ drop 1 xs ≡ xs) (sym e) refl

-- the first task was done, and these desks were asked
task_kind : (w : WorldState) (t : Task) (ts : List Task) (h : Happening) → w.tasks ≡ t ∷ ts → h.did ≡ t ∷ []
    → AllByRecursion TellsLegalDesk h.asked → h.worked ≡ [] → h.given_up ≡ [] → orders_in h.made ≡ orders_after w.room h.calls
    → AsksAsDone w h → MakesDueReports w h → IsKind w h
task_kind w t ts h e d a k g o q told = record {
  did = subst (λ (xs : List Task). xs ++ drop (length xs) w.tasks ≡ w.tasks) (sym d) (first_done w t ts e);
  asked = a;
  worked = subst (λ (ds : List Worked). IsAtOne w ds) (sym k) tt;
  given_up = subst (λ (gs : List GivenUp). AllByRecursion (IsGivenUpFull w) gs) (sym g) tt;
  orders = o;
  asks = q;
  reports = told;
}

-- a task was done that asks nobody
quiet_task_kind : (w : WorldState) (t : Task) (ts : List Task) (h : Happening) → w.tasks ≡ t ∷ ts → h.did ≡ t ∷ [] → h.asked ≡ []
    → h.unrecorded ≡ [] → h.worked ≡ [] → h.given_up ≡ [] → orders_in h.made ≡ orders_after w.room h.calls
    → Causes w h.did (finished_in h) None → MakesDueReports w h → IsKind w h
quiet_task_kind w t ts h e d a u k g o c told =
    task_kind w t ts h e d (subst (λ (xs : List RecordedCall). AllByRecursion TellsLegalDesk xs) (sym a) tt) k g o
    (record { who = None; cause = c; asks = record { asked = a; unrecorded = u } }) told

along : (w : WorldState) (h k : Happening) → h ≡ k → IsKind w k → IsKind w h
along w h k e i = subst (λ (x : Happening). IsKind w x) (sym e) i

-- ---- what is taken in

no_tick : (moment endpoint : ℕ) (said : Said) → is_tick (room_call moment endpoint said ∷ receptions endpoint said) ≡ false
no_tick moment endpoint (media ssrc seq timestamp octets) = refl
no_tick moment endpoint leaves = refl
no_tick moment endpoint (control speaker reports tmmbns asks) = refl

hearing_kind_by : (w : WorldState) (moment endpoint : ℕ) (bytes : List ℕ) (said : Said) (r : Result Step RoomFault)
    → step_of w.room (room_call moment endpoint said) ≡ r → IsKind w (hearing_by w moment endpoint bytes said r)
hearing_kind_by w moment endpoint bytes said (Ok step) e =
    idle_kind w _ refl refl refl refl refl (
    orders_first step.orders (tasks_after w.setup step ++ jobs_of w.setup.table step.room endpoint bytes said)
    (none_append (tasks_after w.setup step) (jobs_of w.setup.table step.room endpoint bytes said) (none_after w.setup step)
    (none_heard w.setup.table step.room endpoint bytes said))
    ∙ sym (
    ap (λ (x : Result Step RoomFault). orders_of x ++ orders_after (room_of w.room x) (receptions endpoint said)) e
    ∙ ap (λ (os : List Order). step.orders ++ os) (none_received step.room endpoint said)
    )
    )
    (untold w _ (no_tick moment endpoint said) refl (none_taken w.setup step endpoint bytes said))
hearing_kind_by w moment endpoint bytes said (Err fault) e = giving_kind w _

hearing_kind : (w : WorldState) (moment endpoint : ℕ) (bytes : List ℕ) (said : Result Said Refusal)
    → IsKind w (hearing w moment endpoint bytes said)
hearing_kind w moment endpoint bytes (Ok said) =
    hearing_kind_by w moment endpoint bytes said (step_of w.room (room_call moment endpoint said)) refl
hearing_kind w moment endpoint bytes (Err refusal) = giving_kind w _

ticking_kind : (w : WorldState) (moment : ℕ) → IsKind w (ticking w moment)
ticking_kind w moment =
    let step : Step = tick_step w.room moment in
    idle_kind w (ticking w moment) refl refl refl refl refl (orders_ticked w step) (record { round = refl; reports = all_ticked w step })

selecting_kind : (w : WorldState) (moment leg : ℕ) (on : Bool) (r : Result Step RoomFault) → select_step w.room moment leg on ≡ r
    → IsKind w (selecting_by w moment leg on r)
selecting_kind w moment leg on (Ok step) e =
    idle_kind w _ refl refl refl refl refl (
    orders_first step.orders (tasks_after w.setup step) (none_after w.setup step)
    ∙ sym (ap (λ (x : Result Step RoomFault). orders_of x ++ []) e)
    )
    (untold w _ refl refl (none_selected w.setup step))
selecting_kind w moment leg on (Err fault) e = giving_kind w _

-- ---- the ingress

-- the desk of the publisher that the task asks
module _ (w : WorldState) (t : Task) (ts : List Task) (p : ℕ) (call : DeskCall) where
  reply_asks : (d : DeskState) (reply : Option RecordedCall) → Some (p, call) ≡ asked_by_task w t → slice_get w.desks p ≡ Some d
      → Replies p d call reply → AsksAsDone w (ingress_asked w t p reply)
  reply_asks d None c f r = record {
    who = Some (p, call);
    cause = c;
    asks = subst (λ (x : Option DeskState). AsksThere p call x (ingress_asked w t p None)) (sym f)
        (record { reply = None; replies = r; asked = refl; unrecorded = refl });
  }
  reply_asks d (Some a) c f r = record {
    who = Some (p, call);
    cause = c;
    asks = subst (λ (x : Option DeskState). AsksThere p call x (ingress_asked w t p (Some a))) (sym f)
        (record { reply = Some a; replies = r; asked = refl; unrecorded = refl });
  }

  reply_kind : (d : DeskState) (reply : Option RecordedCall) → w.tasks ≡ t ∷ ts → Some (p, call) ≡ asked_by_task w t
      → slice_get w.desks p ≡ Some d → Replies p d call reply → IsKind w (ingress_asked w t p reply)
  reply_kind d None e c f r = task_kind w t ts _ e refl tt refl refl refl (reply_asks d None c f r) (untold w _ refl refl refl)
  reply_kind d (Some a) e c f r =
      task_kind w t ts _ e refl (record { legal = r.legal; announced = r.effect.announced }, tt) refl refl refl (reply_asks d (Some a) c f r) (untold w _ refl refl refl)

  asks_kind : (d : Option DeskState) (h : Happening) → w.tasks ≡ t ∷ ts → Some (p, call) ≡ asked_by_task w t → slice_get w.desks p ≡ d
      → IngressAsks w t p call d h → IsKind w h
  asks_kind None h e c f r =
      along w h _ r (task_kind w t ts _ e refl tt refl refl refl (record {
        who = Some (p, call);
        cause = c;
        asks = subst (λ (x : Option DeskState). AsksThere p call x (done_task w t [])) (sym f) (record { asked = refl; unrecorded = refl });
      }) (untold w _ refl refl refl))
  asks_kind (Some d) h e c f r = along w h _ r.2 (reply_kind d r.0 e c f r.1)

order_kind : (w : WorldState) (t : Task) (ts : List Task) (asked : Option (ℕ × DeskCall)) (h : Happening)
    → w.tasks ≡ t ∷ ts → asked ≡ asked_by_task w t → OrderAsks w t asked h → IsKind w h
order_kind w t ts None h e c r = along w h _ r (quiet_task_kind w t ts _ e refl refl refl refl refl refl c (untold w _ refl refl refl))
order_kind w t ts (Some (p, call)) h e c r = asks_kind w t ts p call (slice_get w.desks p) h e c refl r

-- whichever of two is taken
either_kind : (w : WorldState) (b : Bool) (x y : Happening) → (b ≡ true → IsKind w x) → (b ≡ false → IsKind w y)
    → IsKind w (if b then x else y)
either_kind w true x y i j = i refl
either_kind w false x y i j = j refl

above_of : (a b : ℕ) → nat_le a b ≡ false → b + 1 ≤ a
above_of a b e = elim (leb_tells a b) [ inl p ↦ absurd (cc) | inr q ↦ omega (arith, q.1) ]

-- there was no room
given_kind : (w : WorldState) (k : ℕ) (job : Job) (ts : List Task) (s : WorkerState) → w.tasks ≡ push k job ∷ ts
    → slice_get w.workers k ≡ Some s → nat_le JOB_LIMIT (length s.jobs) ≡ true
    → IsKind w (record (done_task w (push k job) (Lost k ∷ [])) { given_up = record { worker = k; job = job } ∷ [] })
given_kind w k job ts s e f full = record {
  did = first_done w (push k job) ts e;
  asked = tt;
  worked = tt;
  given_up = (record { state = s; there = f; full = leb-true JOB_LIMIT (length s.jobs) full }, tt);
  orders = refl;
  asks = record { who = None; cause = refl; asks = record { asked = refl; unrecorded = refl } };
  reports = untold w _ refl refl refl;
}

-- there was
put_kind : (w : WorldState) (k : ℕ) (job : Job) (ts : List Task) (s : WorkerState) → w.tasks ≡ push k job ∷ ts
    → slice_get w.workers k ≡ Some s → nat_le JOB_LIMIT (length s.jobs) ≡ false
    → IsKind w (record (done_task w (push k job) []) { worked = putting k s job ∷ [] })
put_kind w k job ts s e f room = record {
  did = first_done w (push k job) ts e;
  asked = tt;
  worked = record {
    state = s;
    there = f;
    taken = refl;
    room = inr (above_of JOB_LIMIT (length s.jobs) room);
    hand = sym (append-nil (in_hand s.hand));
    legs = refl;
  };
  given_up = tt;
  orders = refl;
  asks = record { who = None; cause = refl; asks = record { asked = refl; unrecorded = refl } };
  reports = untold w _ refl refl refl;
}

push_kind : (w : WorldState) (k : ℕ) (job : Job) (ts : List Task) (s : Option WorkerState)
    → w.tasks ≡ push k job ∷ ts → slice_get w.workers k ≡ s → IsKind w (pushing w k job s)
push_kind w k job ts None e f = quiet_task_kind w (push k job) ts _ e refl refl refl refl refl refl refl (untold w _ refl refl refl)
push_kind w k job ts (Some s) e f =
    either_kind w (nat_le JOB_LIMIT (length s.jobs)) _ _ (given_kind w k job ts s e f) (put_kind w k job ts s e f)

does_task_kind : (w : WorldState) (t : Task) (ts : List Task) (h : Happening) → w.tasks ≡ t ∷ ts → DoesTask w t h → IsKind w h
does_task_kind w (order (Arrive leg stay)) ts h e r = order_kind w _ ts _ h e refl r
does_task_kind w (order (Depart leg stay)) ts h e r = order_kind w _ ts _ h e refl r
does_task_kind w (order (Route leg stay turn on)) ts h e r = along w h _ r (quiet_task_kind w _ ts _ e refl refl refl refl refl refl refl (untold w _ refl refl refl))
does_task_kind w (push k job) ts h e r = along w h _ r (push_kind w k job ts (slice_get w.workers k) e refl)
does_task_kind w (pulse p) ts h e r =
    asks_kind w (pulse p) ts p (Time w.room.moment signal.Tick) (slice_get w.desks p) h e refl refl r
does_task_kind w (expire p) ts h e r =
    asks_kind w (expire p) ts p (Time w.room.moment signal.Expire) (slice_get w.desks p) h e refl refl r
does_task_kind w (report p) ts h e r = along w h _ r.does (quiet_task_kind w _ ts _ e refl refl refl refl refl refl refl (untold w _ refl refl refl))

next_kind : (w : WorldState) (p : Option Pending) (ts : List Task) (h : Happening) → w.tasks ≡ ts → DoesNext w p ts h → IsKind w h
next_kind w (Some p) ts h e r = along w h _ r (idle_kind w _ refl refl refl refl refl refl (untold w _ refl refl refl))
next_kind w None [] h e r = along w h _ r (giving_kind w _)
next_kind w None (t ∷ ts) h e r = does_task_kind w t ts h e r

-- ---- a worker

-- something was done at a worker that is there, which took and was given no job, and these desks were asked
worker_kind : (w : WorldState) (k : ℕ) (s : WorkerState) (h : Happening) (d : Worked) → slice_get w.workers k ≡ Some s
    → h.did ≡ [] → AllByRecursion TellsLegalDesk h.asked → h.worked ≡ d ∷ [] → d.worker ≡ k → d.taken ≡ [] → d.put ≡ []
    → d.finished ++ in_hand d.hand ≡ in_hand s.hand → d.legs ≡ fold (legs_after w.rows) s.legs d.finished
    → h.given_up ≡ [] → orders_in h.made ≡ orders_after w.room h.calls → AsksAsDone w h → MakesDueReports w h → IsKind w h
worker_kind w k s h d f n a e at t p hd lg g o q told = record {
  did = subst (λ (ts : List Task). ts ++ drop (length ts) w.tasks ≡ w.tasks) (sym n) refl;
  asked = a;
  worked = subst (λ (ds : List Worked). IsAtOne w ds) (sym e) (record {
    state = s;
    there = subst (λ (x : ℕ). slice_get w.workers x ≡ Some s) (sym at) f;
    taken = subst (λ (js : List Job). js ++ drop (length js) s.jobs ≡ s.jobs) (sym t) refl;
    room = inl p;
    hand = hd ∙ sym (append-nil (in_hand s.hand)) ∙ ap (λ (js : List Job). in_hand s.hand ++ js) (sym t);
    legs = lg;
  });
  given_up = subst (λ (gs : List GivenUp). AllByRecursion (IsGivenUpFull w) gs) (sym g) tt;
  orders = o;
  asks = q;
  reports = told;
}

-- the job in hand, which asks this desk and leaves the legs as they are
module _ (w : WorldState) (k : ℕ) (s : WorkerState) (job : Job) (f : slice_get w.workers k ≡ Some s) (held : s.hand ≡ doing job)
    (same : s.legs ≡ legs_after w.rows s.legs job) where
  let_go : job ∷ [] ≡ in_hand s.hand
  let_go = sym (ap in_hand held)

  module _ (leg : Option ℕ) (p : ℕ) (call : DeskCall) (c : AskedByJob w job (Some (p, call))) where
    worker_reply_asks : (d : DeskState) (reply : Option RecordedCall) → slice_get w.desks p ≡ Some d → Replies p d call reply
        → AsksAsDone w (worker_asked w k s job leg p reply)
    worker_reply_asks d None at r = record {
      who = Some (p, call);
      cause = c;
      asks = subst (λ (x : Option DeskState). AsksThere p call x (worker_asked w k s job leg p None)) (sym at)
          (record { reply = None; replies = r; asked = refl; unrecorded = refl });
    }
    worker_reply_asks d (Some a) at r = record {
      who = Some (p, call);
      cause = c;
      asks = subst (λ (x : Option DeskState). AsksThere p call x (worker_asked w k s job leg p (Some a))) (sym at)
          (record { reply = Some a; replies = r; asked = refl; unrecorded = refl });
    }

    hand_of_reply : (x : Option Pending) → in_hand (hand_of x) ≡ []
    hand_of_reply None = refl
    hand_of_reply (Some y) = refl

    worker_reply_kind : (d : DeskState) (reply : Option RecordedCall) → slice_get w.desks p ≡ Some d → Replies p d call reply
        → IsKind w (worker_asked w k s job leg p reply)
    worker_reply_kind d None at r =
        worker_kind w k s _ _ f refl tt refl refl refl refl let_go same refl refl (worker_reply_asks d None at r) (untold w _ refl refl refl)
    worker_reply_kind d (Some a) at r =
        worker_kind w k s _ _ f refl (record { legal = r.legal; announced = r.effect.announced }, tt) refl refl refl refl
        (ap (λ (js : List Job). job ∷ js) (hand_of_reply (pending_of a.publisher leg a.answer a.effect)) ∙ let_go) same refl refl (worker_reply_asks d (Some a) at r) (untold w _ refl refl refl)

    worker_asks_kind : (d : Option DeskState) (h : Happening) → slice_get w.desks p ≡ d → WorkerAsks w k s job leg p call d h → IsKind w h
    worker_asks_kind None h at r =
        along w h _ r (worker_kind w k s _ _ f refl tt refl refl refl refl let_go same refl refl (record {
          who = Some (p, call);
          cause = c;
          asks = subst (λ (x : Option DeskState). AsksThere p call x (working w (with_hand k s (job ∷ []) free) [])) (sym at)
              (record { asked = refl; unrecorded = refl });
        }) (untold w _ refl refl refl))
    worker_asks_kind (Some d) h at r = along w h _ r.2 (worker_reply_kind d r.0 at r.1)

  job_asks_kind : (leg : Option ℕ) (asked : Option (ℕ × DeskCall)) (h : Happening) → AskedByJob w job asked → JobAsks w k s job leg asked h
      → IsKind w h
  job_asks_kind leg None h c r =
      along w h _ r (worker_kind w k s _ _ f refl tt refl refl refl refl let_go same refl refl
      (record { who = None; cause = c; asks = record { asked = refl; unrecorded = refl } }) (untold w _ refl refl refl))
  job_asks_kind leg (Some (p, call)) h c r = worker_asks_kind leg p call c (slice_get w.desks p) h refl r

-- the job in hand goes to the legs
forward_kind : (w : WorldState) (k : ℕ) (s : WorkerState) (job : Job) → slice_get w.workers k ≡ Some s → s.hand ≡ doing job
    → AskedByJob w job None → IsKind w (forwarding w k s job)
forward_kind w k s job f held c =
    worker_kind w k s _ _ f refl tt refl refl refl refl (sym (ap in_hand held)) refl refl refl
    (record { who = None; cause = c; asks = record { asked = refl; unrecorded = refl } }) (untold w _ refl refl refl)

job_kind : (w : WorldState) (k : ℕ) (s : WorkerState) (job : Job) (h : Happening) → slice_get w.workers k ≡ Some s → s.hand ≡ doing job
    → DoesJob w k s job h → IsKind w h
job_kind w k s (Packet publisher bytes) h f held r = along w h _ r (forward_kind w k s _ f held refl)
job_kind w k s (Resend leg stay nack) h f held r = along w h _ r (forward_kind w k s _ f held refl)
job_kind w k s (Report leg stay sr) h f held r = along w h _ r (forward_kind w k s _ f held refl)
job_kind w k s (Goodbye leg) h f held r = along w h _ r (forward_kind w k s _ f held refl)
job_kind w k s (Request leg stay word) h f held r =
    job_asks_kind w k s _ f held (sym (map-id s.legs)) (Some leg) _ h (r.0, r.1, refl) r.2
job_kind w k s (Pli leg moment) h f held r = job_asks_kind w k s _ f held (sym (map-id s.legs)) None _ h refl r

take_kind : (w : WorldState) (k : ℕ) (s : WorkerState) (job : Job) (jobs : List Job) → slice_get w.workers k ≡ Some s
    → s.hand ≡ free → s.jobs ≡ job ∷ jobs → IsKind w (working w (taking k s job) [])
take_kind w k s job jobs f held e = record {
  did = refl;
  asked = tt;
  worked = record {
    state = s;
    there = f;
    taken = subst (λ (js : List Job). job ∷ drop 1 js ≡ js) (sym e) refl;
    room = inl refl;
    hand = sym (ap (λ (x : Hand). in_hand x ++ job ∷ []) held);
    legs = refl;
  };
  given_up = tt;
  orders = refl;
  asks = idle_asks_of;
  reports = untold w _ refl refl refl;
}
  where
    idle_asks_of : AsksAsDone w (working w (taking k s job) [])
    idle_asks_of = record { who = None; cause = refl; asks = record { asked = refl; unrecorded = refl } }

works_on_kind : (w : WorldState) (k : ℕ) (s : WorkerState) (hand : Hand) (jobs : List Job) (h : Happening)
    → slice_get w.workers k ≡ Some s → s.hand ≡ hand → s.jobs ≡ jobs → WorksOn w k s hand jobs h → IsKind w h
works_on_kind w k s (telling p) jobs h f held e r =
    along w h _ r (worker_kind w k s _ _ f refl tt refl refl refl refl (sym (ap in_hand held)) refl refl refl
    (record { who = None; cause = refl; asks = record { asked = refl; unrecorded = refl } }) (untold w _ refl refl refl))
works_on_kind w k s (doing job) jobs h f held e r = job_kind w k s job h f held r
works_on_kind w k s free [] h f held e r = along w h _ r (giving_kind w _)
works_on_kind w k s free (job ∷ jobs) h f held e r = along w h _ r (take_kind w k s job jobs f held e)

works_kind : (w : WorldState) (k : ℕ) (s : Option WorkerState) (h : Happening) → slice_get w.workers k ≡ s → Works w k s h → IsKind w h
works_kind w k None h f r = along w h _ r (giving_kind w _)
works_kind w k (Some s) h f r = works_on_kind w k s s.hand s.jobs h f refl refl r

-- ---- an event

unless_kind : (w : WorldState) (h : Happening) (P : Type 0) (b : Bool) → (P → IsKind w h)
    → MatchBool b (h ≡ giving w (Busy ∷ [])) P → IsKind w h
unless_kind w h P true f r = along w h _ r (giving_kind w _)
unless_kind w h P false f r = f r

pub kind_of : (w : WorldState) (e : Event) (h : Happening) → Does w e h → IsKind w h
kind_of w (Hear moment endpoint bytes) h r =
    unless_kind w h (IsHearing w moment endpoint bytes h) (is_busy w)
    (λ x. along w h _ x.does (hearing_kind w moment endpoint bytes x.said)) r
kind_of w (Tick moment) h r = unless_kind w h _ (is_busy w) (λ x. along w h _ x (ticking_kind w moment)) r
kind_of w (Select moment leg on) h r =
    unless_kind w h _ (is_busy w) (λ x. along w h _ x (selecting_kind w moment leg on (select_step w.room moment leg on) refl)) r
kind_of w Ingress h r = next_kind w w.pending w.tasks h refl r
kind_of w (Work k) h r = works_kind w k (slice_get w.workers k) h refl r
