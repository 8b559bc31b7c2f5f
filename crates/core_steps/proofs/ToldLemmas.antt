-- What waits to be told, or is in a worker's hand, is of a recorded call.
use Rattle.std.proofs.Common.{◌≡◌, ℕ, zero, suc, List, [], ◌∷◌, ◌++◌, Bool, true, false, Option, None, Some, Result, Ok, Err, refl, ap, sym, ◌∙◌, subst, append_assoc, append-nil, inl, inr}
use Rattle.std.specs.Prelude.{◌⊎◌, slice_get, slice_index_or, MatchBool, nat_le, length, fold, if◌then◌else◌}
use Rattle.std.specs.List.{AllByRecursion}
use Rattle.std.proofs.lemmas.Option.{none-some}
use Rattle.members.specs.declared.order.Order.TheVariants.{Arrive, Depart, Route}
use Rattle.settings.specs.declared.fault.RoomFault.{RoomFault}
use Rattle.settings.specs.Settings.{Configuration}
use Rattle.members.specs.Room.{Step, select_step}
use Rattle.members.specs.Calls.{step_of}
use Rattle.desk.specs.declared.call.Call.{Call as DeskCall}
use Rattle.desk.specs.declared.call.Call.TheVariants.{Time}
use Rattle.desk.specs.declared.call.Signal.TheVariants as signal
use Rattle.desk.specs.State.{DeskState}
use Rattle.events.specs.declared.event.Event.{Event}
use Rattle.events.specs.declared.event.Event.TheVariants.{Hear, Tick, Select, Ingress, Work}
use Rattle.events.specs.declared.job.Job.{Job}
use Rattle.events.specs.declared.job.Job.TheVariants.{Packet, Request, Resend, Pli, Report, Goodbye}
use Rattle.events.specs.declared.output.Refusal.{Refusal}
use Rattle.events.specs.declared.output.Out.TheVariants.{Busy}
use Rattle.core_steps.specs.declared.ring.TheConstants.{JOB_LIMIT}
use Rattle.core_steps.specs.Happening.{Happening, RecordedCall, Worked, giving, world_after, workers_by, worker_after, no_worker}
use Rattle.core_steps.specs.Hearing.{IsHearing, hearing, hearing_by, ticking, room_call, selecting_by}
use Rattle.datagram.specs.Saying.{Said}
use Rattle.desk_calls.specs.Notification.{pending_of, Pending}
use Rattle.core_steps.specs.Opening.{IsNewWorld}
use Rattle.core_steps.specs.OverRuns.{IsOfCall, TellsOf}
use Rattle.core_steps.specs.Rule.{Does, DoesNext, DoesTask, DoesJob, Works, WorksOn, is_busy, IngressAsks, OrderAsks, JobAsks, WorkerAsks, pushing, hand_of, ingress_asked, worker_asked}
use Rattle.core_steps.specs.Run.{Runs, worlds_after}
use Rattle.core_steps.specs.Traces.{calls_of}
use Rattle.core_steps.specs.World.{WorldState, WorkerState, Task, order, push, pulse, expire, report, Hand, free, doing, telling}
use Rattle.core_steps.proofs.KindLemmas.{IsAtOne, kind_of}
use Rattle.core_steps.proofs.QuietLegLemmas.{set_cases}

-- ---- of what an event leaves to be told

abbrev told_in : Hand → Option Pending
told_in free = None
told_in (doing job) = None
told_in (telling p) = Some p

-- what is in the hand was in this worker's hand before, or is of a call that was recorded
abbrev pub IsHandOf : WorldState → List RecordedCall → Worked → Type 0
IsHandOf w asked d =
    (p : Pending) → told_in d.hand ≡ Some p
    → ((s : WorkerState) × (slice_get w.workers d.worker ≡ Some s) × (told_in s.hand ≡ Some p)) ⊎ IsOfCall asked p

-- what waits waited before, or is of a call that was recorded
pub record Leaves (w : WorldState) (h : Happening) : Type 0 where
  pub waits : (p : Pending) → h.pending ≡ Some p → (w.pending ≡ Some p) ⊎ IsOfCall h.asked p
  pub hands : AllByRecursion (IsHandOf w h.asked) h.worked

along : (w : WorldState) (h k : Happening) → h ≡ k → Leaves w k → Leaves w h
along w h k e i = subst (λ (x : Happening). Leaves w x) (sym e) i

nothing_worked : (w : WorldState) (h : Happening) → h.worked ≡ [] → AllByRecursion (IsHandOf w h.asked) h.worked
nothing_worked w h none = subst (λ (ds : List Worked). AllByRecursion (IsHandOf w h.asked) ds) (sym none) tt

stays : (w : WorldState) (h : Happening) → h.pending ≡ w.pending → h.worked ≡ [] → Leaves w h
stays w h same none = record { waits = λ p e. inl (sym same ∙ e); hands = nothing_worked w h none }

-- a worker from then on has this in hand
holds : (w : WorldState) (h : Happening) (d : Worked) → h.pending ≡ w.pending → h.worked ≡ d ∷ [] → IsHandOf w h.asked d → Leaves w h
holds w h d same one its = record {
  waits = λ p e. inl (sym same ∙ e);
  hands = subst (λ (ds : List Worked). AllByRecursion (IsHandOf w h.asked) ds) (sym one) (its, tt);
}

told_of_call : (leg : Option ℕ) (a : RecordedCall) (p : Pending) → pending_of a.publisher leg a.answer a.effect ≡ Some p
    → IsOfCall (a ∷ []) p
told_of_call leg a p is = record { place = 0; call = a; there = refl; asked_by = leg; tells = is }

in_hand_of : (x : Option Pending) (p : Pending) → told_in (hand_of x) ≡ Some p → x ≡ Some p
in_hand_of None p is = is
in_hand_of (Some q) p is = is

-- ---- what is taken in

hearing_leaves_by : (w : WorldState) (moment endpoint : ℕ) (bytes : List ℕ) (said : Said) (r : Result Step RoomFault)
    → Leaves w (hearing_by w moment endpoint bytes said r)
hearing_leaves_by w moment endpoint bytes said (Ok step) = stays w _ refl refl
hearing_leaves_by w moment endpoint bytes said (Err fault) = stays w _ refl refl

hearing_leaves : (w : WorldState) (moment endpoint : ℕ) (bytes : List ℕ) (said : Result Said Refusal)
    → Leaves w (hearing w moment endpoint bytes said)
hearing_leaves w moment endpoint bytes (Ok said) =
    hearing_leaves_by w moment endpoint bytes said (step_of w.room (room_call moment endpoint said))
hearing_leaves w moment endpoint bytes (Err refusal) = stays w _ refl refl

selecting_leaves : (w : WorldState) (moment leg : ℕ) (on : Bool) (r : Result Step RoomFault) → Leaves w (selecting_by w moment leg on r)
selecting_leaves w moment leg on (Ok step) = stays w _ refl refl
selecting_leaves w moment leg on (Err fault) = stays w _ refl refl

-- ---- the ingress

asks_leaves : (w : WorldState) (t : Task) (p : ℕ) (call : DeskCall) (d : Option DeskState) (h : Happening) → IngressAsks w t p call d h
    → Leaves w h
asks_leaves w t p call None h r = along w h _ r (stays w _ refl refl)
asks_leaves w t p call (Some d) h r = step r.0 r.2
  where
    step : (reply : Option RecordedCall) → h ≡ ingress_asked w t p reply → Leaves w h
    step None e = along w h _ e (stays w _ refl refl)
    step (Some a) e = along w h _ e (record { waits = λ q is. inr (told_of_call None a q is); hands = tt })

order_leaves : (w : WorldState) (t : Task) (asked : Option (ℕ × DeskCall)) (h : Happening) → OrderAsks w t asked h → Leaves w h
order_leaves w t None h r = along w h _ r (stays w _ refl refl)
order_leaves w t (Some (p, call)) h r = asks_leaves w t p call (slice_get w.desks p) h r

either : (w : WorldState) (b : Bool) (x y : Happening) → Leaves w x → Leaves w y → Leaves w (if b then x else y)
either w true x y i j = i
either w false x y i j = j

push_leaves : (w : WorldState) (k : ℕ) (job : Job) (s : Option WorkerState) → slice_get w.workers k ≡ s → Leaves w (pushing w k job s)
push_leaves w k job None f = stays w _ refl refl
push_leaves w k job (Some s) f =
    either w (nat_le JOB_LIMIT (length s.jobs)) _ _ (stays w _ refl refl)
    (holds w _ _ refl refl (λ p is. inl (s, f, is)))

task_leaves : (w : WorldState) (t : Task) (h : Happening) → DoesTask w t h → Leaves w h
task_leaves w (order (Arrive leg stay)) h r = order_leaves w _ _ h r
task_leaves w (order (Depart leg stay)) h r = order_leaves w _ _ h r
task_leaves w (order (Route leg stay turn on)) h r = along w h _ r (stays w _ refl refl)
task_leaves w (push k job) h r = along w h _ r (push_leaves w k job (slice_get w.workers k) refl)
task_leaves w (pulse p) h r = asks_leaves w (pulse p) p (Time w.room.moment signal.Tick) (slice_get w.desks p) h r
task_leaves w (expire p) h r = asks_leaves w (expire p) p (Time w.room.moment signal.Expire) (slice_get w.desks p) h r
task_leaves w (report p) h r = along w h _ r.does (stays w _ refl refl)

next_leaves : (w : WorldState) (p : Option Pending) (ts : List Task) (h : Happening) → DoesNext w p ts h → Leaves w h
next_leaves w (Some p) ts h r = along w h _ r (record { waits = λ q is. absurd (none-some q is); hands = tt })
next_leaves w None [] h r = along w h _ r (stays w _ refl refl)
next_leaves w None (t ∷ ts) h r = task_leaves w t h r

-- ---- a worker

-- nothing to tell is in hand
module _ (w : WorldState) (h : Happening) (d : Worked) (same : h.pending ≡ w.pending) (one : h.worked ≡ d ∷ []) where
  empty_hand : told_in d.hand ≡ None → Leaves w h
  empty_hand none = holds w h d same one (λ p is. absurd (none-some p (sym none ∙ is)))

worker_asks_leaves : (w : WorldState) (k : ℕ) (s : WorkerState) (job : Job) (leg : Option ℕ) (p : ℕ) (call : DeskCall) (d : Option DeskState)
    (h : Happening) → WorkerAsks w k s job leg p call d h → Leaves w h
worker_asks_leaves w k s job leg p call None h r = along w h _ r (empty_hand w _ _ refl refl refl)
worker_asks_leaves w k s job leg p call (Some d) h r = step r.0 r.2
  where
    step : (reply : Option RecordedCall) → h ≡ worker_asked w k s job leg p reply → Leaves w h
    step None e = along w h _ e (empty_hand w _ _ refl refl refl)
    step (Some a) e =
        along w h _ e (holds w _ _ refl refl (λ q is. inr (told_of_call leg a q (in_hand_of (pending_of a.publisher leg a.answer a.effect) q is))))

job_asks_leaves : (w : WorldState) (k : ℕ) (s : WorkerState) (job : Job) (leg : Option ℕ) (asked : Option (ℕ × DeskCall)) (h : Happening)
    → JobAsks w k s job leg asked h → Leaves w h
job_asks_leaves w k s job leg None h r = along w h _ r (empty_hand w _ _ refl refl refl)
job_asks_leaves w k s job leg (Some (p, call)) h r = worker_asks_leaves w k s job leg p call (slice_get w.desks p) h r

job_leaves : (w : WorldState) (k : ℕ) (s : WorkerState) (job : Job) (h : Happening) → DoesJob w k s job h → Leaves w h
job_leaves w k s (Packet publisher bytes) h r = along w h _ r (empty_hand w _ _ refl refl refl)
job_leaves w k s (Resend leg stay nack) h r = along w h _ r (empty_hand w _ _ refl refl refl)
job_leaves w k s (Report leg stay sr) h r = along w h _ r (empty_hand w _ _ refl refl refl)
job_leaves w k s (Goodbye leg) h r = along w h _ r (empty_hand w _ _ refl refl refl)
job_leaves w k s (Request leg stay word) h r = job_asks_leaves w k s _ (Some leg) _ h r.2
job_leaves w k s (Pli leg moment) h r = job_asks_leaves w k s _ None _ h r

works_on_leaves : (w : WorldState) (k : ℕ) (s : WorkerState) (hand : Hand) (jobs : List Job) (h : Happening) → WorksOn w k s hand jobs h
    → Leaves w h
works_on_leaves w k s (telling p) jobs h r = along w h _ r (empty_hand w _ _ refl refl refl)
works_on_leaves w k s (doing job) jobs h r = job_leaves w k s job h r
works_on_leaves w k s free [] h r = along w h _ r (stays w _ refl refl)
works_on_leaves w k s free (job ∷ jobs) h r = along w h _ r (empty_hand w _ _ refl refl refl)

works_leaves : (w : WorldState) (k : ℕ) (s : Option WorkerState) (h : Happening) → Works w k s h → Leaves w h
works_leaves w k None h r = along w h _ r (stays w _ refl refl)
works_leaves w k (Some s) h r = works_on_leaves w k s s.hand s.jobs h r

-- ---- an event

unless_leaves : (w : WorldState) (h : Happening) (P : Type 0) (b : Bool) → (P → Leaves w h)
    → MatchBool b (h ≡ giving w (Busy ∷ [])) P → Leaves w h
unless_leaves w h P true f r = along w h _ r (stays w _ refl refl)
unless_leaves w h P false f r = f r

leaves_of : (w : WorldState) (e : Event) (h : Happening) → Does w e h → Leaves w h
leaves_of w (Hear moment endpoint bytes) h r =
    unless_leaves w h (IsHearing w moment endpoint bytes h) (is_busy w)
    (λ x. along w h _ x.does (hearing_leaves w moment endpoint bytes x.said)) r
leaves_of w (Tick moment) h r = unless_leaves w h (h ≡ ticking w moment) (is_busy w) (λ x. along w h _ x (stays w _ refl refl)) r
leaves_of w (Select moment leg on) h r =
    unless_leaves w h _ (is_busy w) (λ x. along w h _ x (selecting_leaves w moment leg on (select_step w.room moment leg on))) r
leaves_of w Ingress h r = next_leaves w w.pending w.tasks h r
leaves_of w (Work k) h r = works_leaves w k (slice_get w.workers k) h r

-- ---- more calls

more_there : (calls more : List RecordedCall) (place : ℕ) (a : RecordedCall) → slice_get calls place ≡ Some a
    → slice_get (calls ++ more) place ≡ Some a
more_there [] more place a f = absurd (none-some a f)
more_there (c ∷ calls) more zero a f = f
more_there (c ∷ calls) more (suc place) a f = more_there calls more place a f

of_calls : (calls more : List RecordedCall) (p : Pending) → IsOfCall calls p → IsOfCall (calls ++ more) p
of_calls calls more p h = record {
  place = h.place;
  call = h.call;
  there = more_there calls more h.place h.call h.there;
  asked_by = h.asked_by;
  tells = h.tells;
}

of_more : (calls more : List RecordedCall) (p : Pending) → IsOfCall more p → IsOfCall (calls ++ more) p
of_more [] more p h = h
of_more (c ∷ calls) more p h =
    let r = of_more calls more p h in
    record { place = suc r.place; call = r.call; there = r.there; asked_by = r.asked_by; tells = r.tells }

-- ---- one event, and a run

abbrev AreOf : List RecordedCall → WorldState → Type 0
AreOf calls w =
    (k : ℕ) (s : WorkerState) (p : Pending) → slice_get w.workers k ≡ Some s → told_in s.hand ≡ Some p → IsOfCall calls p

hands_more : (calls : List RecordedCall) (w : WorldState) (h : Happening) (ds : List Worked) → AreOf calls w → IsAtOne w ds
    → AllByRecursion (IsHandOf w h.asked) ds
    → (k : ℕ) (s : WorkerState) (p : Pending) → slice_get (fold workers_by w.workers ds) k ≡ Some s → told_in s.hand ≡ Some p
    → IsOfCall (calls ++ h.asked) p
hands_more calls w h [] all one each k s p f is = of_calls calls h.asked p (all k s p f is)
hands_more calls w h (d ∷ (e ∷ ds)) all one each k s p f is = absurd one
hands_more calls w h (d ∷ []) all one each k s p f is =
    elim (set_cases w.workers d.worker k (worker_after (slice_index_or w.workers d.worker no_worker) d) s f) [
      | inl here ↦
          elim (each.0 p (sym (ap (λ (x : WorkerState). told_in x.hand) here.1) ∙ is)) [
            | inl was ↦ of_calls calls h.asked p (all d.worker was.0 p was.1 was.2)
            | inr new ↦ of_more calls h.asked p new
          ]
      | inr other ↦ of_calls calls h.asked p (all k s p other.1 is)
    ]

record AreTold (calls : List RecordedCall) (w : WorldState) : Type 0 where
  waits : (p : Pending) → w.pending ≡ Some p → IsOfCall calls p
  hands : AreOf calls w

told_more : (calls : List RecordedCall) (w : WorldState) (e : Event) (h : Happening) → Does w e h → AreTold calls w
    → AreTold (calls ++ h.asked) (world_after w h)
told_more calls w e h does t =
    let l = leaves_of w e h does in
    record {
      waits = λ p is. elim (l.waits p is) [ inl was ↦ of_calls calls h.asked p (t.waits p was) | inr new ↦ of_more calls h.asked p new ];
      hands = hands_more calls w h h.worked t.hands (kind_of w e h does).worked l.hands;
    }

told_run : (calls : List RecordedCall) (w : WorldState) (events : List Event) (history : List Happening) → Runs w events history
    → AreTold calls w → AreTold (calls ++ calls_of history) (worlds_after w history)
told_run calls w [] [] r t = subst (λ (xs : List RecordedCall). AreTold xs w) (sym (append-nil calls)) t
told_run calls w [] (h ∷ history) r t = absurd r
told_run calls w (e ∷ events) [] r t = absurd r
told_run calls w (e ∷ events) (h ∷ history) r t =
    subst (λ (xs : List RecordedCall). AreTold xs (worlds_after w (h ∷ history))) (append_assoc calls h.asked (calls_of history))
    (told_run (calls ++ h.asked) (world_after w h) events history r.1 (told_more calls w e h r.0 t))

hand_is : (x : Hand) (p : Pending) → x ≡ telling p → told_in x ≡ Some p
hand_is x p is = ap told_in is

pub told_over_run : (c : Configuration) (w : WorldState) (events : List Event) (history : List Happening) → IsNewWorld c w
    → Runs w events history → TellsOf (calls_of history) (worlds_after w history)
told_over_run c w events history new r =
    let t = told_run [] w events history r (record {
      waits = λ p is. absurd (none-some p (sym new.pending ∙ is));
      hands = λ k s p f is. absurd (none-some p (sym (ap told_in (new.workers k s f).hand) ∙ is));
    }) in
    record { waits = t.waits; in_hand = λ k s p f is. t.hands k s p f (hand_is s.hand p is) }
