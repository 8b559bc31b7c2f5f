-- What a step of a worker leaves aside: tasks, the notification that waits, and what is given up.
use Rattle.std.proofs.Common.{◌≡◌, ◌∙◌, ℕ, List, [], ◌∷◌, ◌++◌, length, drop, refl, sym, ap, subst, arith, Option, None, Some, slice_get, append-nil}
use Rattle.desk.specs.declared.call.Call.{Call as DeskCall}
use Rattle.desk.specs.declared.call.Change.TheVariants as change
use Rattle.desk.specs.State.{DeskState}
use Rattle.events.specs.declared.event.Event.TheVariants.{Work}
use Rattle.events.specs.declared.job.Job.{Job}
use Rattle.events.specs.declared.job.Job.TheVariants.{Packet, Request, Resend, Pli, Report, Goodbye}
use Rattle.desk_calls.specs.DeskCalls.{stay_call, picture_call}
use Rattle.core_steps.specs.Happening.{Happening, RecordedCall, world_after}
use Rattle.core_steps.specs.Rule.{Does, DoesJob, JobAsks, WorkerAsks, Works, WorksOn, worker_asked}
use Rattle.core_steps.specs.Settling.{ingress_left}
use Rattle.core_steps.specs.Waits.{pending_count}
use Rattle.core_steps.specs.World.{Hand, WorkerState, WorldState, doing, free, telling}

-- the tasks, the notification that waits and what is given up aren't its
pub record IsAside (w : WorldState) (h : Happening) : Type 0 where
  pub did : h.did ≡ []
  pub made : h.made ≡ []
  pub pending : h.pending ≡ w.pending
  pub kept : h.given_up ≡ []

aside_along : (w : WorldState) (h k : Happening) → h ≡ k → IsAside w k → IsAside w h
aside_along w h k e a = subst (IsAside w) (sym e) a

asked_aside : (w : WorldState) (k : ℕ) (s : WorkerState) (job : Job) (leg : Option ℕ) (p : ℕ) (reply : Option RecordedCall)
    → IsAside w (worker_asked w k s job leg p reply)
asked_aside w k s job leg p None = record { did = refl; made = refl; pending = refl; kept = refl }
asked_aside w k s job leg p (Some a) = record { did = refl; made = refl; pending = refl; kept = refl }

asks_aside : (w : WorldState) (k : ℕ) (s : WorkerState) (job : Job) (leg : Option ℕ) (p : ℕ) (call : DeskCall) (d : Option DeskState)
    (h : Happening) → WorkerAsks w k s job leg p call d h → IsAside w h
asks_aside w k s job leg p call None h r = aside_along w h _ r (record { did = refl; made = refl; pending = refl; kept = refl })
asks_aside w k s job leg p call (Some d) h r = aside_along w h _ r.2 (asked_aside w k s job leg p r.0)

job_asks_aside : (w : WorldState) (k : ℕ) (s : WorkerState) (job : Job) (leg : Option ℕ) (asked : Option (ℕ × DeskCall)) (h : Happening)
    → JobAsks w k s job leg asked h → IsAside w h
job_asks_aside w k s job leg None h r = aside_along w h _ r (record { did = refl; made = refl; pending = refl; kept = refl })
job_asks_aside w k s job leg (Some (p, call)) h r = asks_aside w k s job leg p call (slice_get w.desks p) h r

job_aside : (w : WorldState) (k : ℕ) (s : WorkerState) (job : Job) (h : Happening) → DoesJob w k s job h → IsAside w h
job_aside w k s (Packet publisher bytes) h r = aside_along w h _ r (record { did = refl; made = refl; pending = refl; kept = refl })
job_aside w k s (Resend leg stay nack) h r = aside_along w h _ r (record { did = refl; made = refl; pending = refl; kept = refl })
job_aside w k s (Report leg stay sr) h r = aside_along w h _ r (record { did = refl; made = refl; pending = refl; kept = refl })
job_aside w k s (Goodbye leg) h r = aside_along w h _ r (record { did = refl; made = refl; pending = refl; kept = refl })
job_aside w k s (Request leg stay word) h r =
    job_asks_aside w k s (Request leg stay word) (Some leg) (stay_call w.setup.table leg stay (change.Request r.0)) h r.2
job_aside w k s (Pli leg moment) h r = job_asks_aside w k s (Pli leg moment) None (picture_call w.setup.table leg moment) h r

hand_aside : (w : WorldState) (k : ℕ) (s : WorkerState) (hand : Hand) (jobs : List Job) (h : Happening) → WorksOn w k s hand jobs h
    → IsAside w h
hand_aside w k s (telling p) jobs h r = aside_along w h _ r (record { did = refl; made = refl; pending = refl; kept = refl })
hand_aside w k s (doing job) jobs h r = job_aside w k s job h r
hand_aside w k s free [] h r = aside_along w h _ r (record { did = refl; made = refl; pending = refl; kept = refl })
hand_aside w k s free (job ∷ jobs) h r = aside_along w h _ r (record { did = refl; made = refl; pending = refl; kept = refl })

works_aside : (w : WorldState) (k : ℕ) (s : Option WorkerState) (h : Happening) → Works w k s h → IsAside w h
works_aside w k None h r = aside_along w h _ r (record { did = refl; made = refl; pending = refl; kept = refl })
works_aside w k (Some s) h r = hand_aside w k s s.hand s.jobs h r

pub work_aside : (w : WorldState) (k : ℕ) (h : Happening) → Does w (Work k) h → IsAside w h
work_aside w k h r = works_aside w k (slice_get w.workers k) h r

pub ingress_same : (w : WorldState) (h : Happening) → IsAside w h → ingress_left (world_after w h) ≡ ingress_left w
ingress_same w h a =
    let size : length (drop (length h.did) w.tasks ++ h.made) ≡ length w.tasks =
    (λ i. length (drop (length (a.did i)) w.tasks ++ a.made i)) ∙ ap length (append-nil w.tasks) in
    let pending : pending_count h.pending ≡ pending_count w.pending = ap pending_count a.pending in
    omega (arith, size, pending)
