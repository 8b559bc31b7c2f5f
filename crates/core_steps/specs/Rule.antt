-- What an event may do: which happening is its.
use Rattle.std.specs.Prelude.{◌≡◌, ℕ, nat_le, not, Bool, true, false, ◌||◌, List, [], ◌∷◌, length, slice_get, Option, None, Some, is_some, MatchBool, if◌then◌else◌}
use Rattle.members.specs.declared.order.Order.TheVariants.{Arrive, Depart, Route}
use Rattle.members.specs.Presence.{source_at}
use Rattle.members.specs.Room.{reception_at}
use Rattle.members.specs.Calls.{MakeBlock}
use Rattle.members.specs.Reception.{Block}
use Rattle.members.specs.Stream.{IsBlockAnswer}
use Rattle.bounding_set.specs.State.{announced_of}
use Rattle.tmmbr_tuple.specs.declared.tuple.Tuple.{Tuple}
use Rattle.tmmbr_tuple.specs.Tuple.{word_of}
use Rattle.desk.specs.declared.call.Call.{Call as DeskCall}
use Rattle.desk.specs.declared.call.Call.TheVariants.{Time}
use Rattle.desk.specs.declared.call.Change.TheVariants as change
use Rattle.desk.specs.declared.call.Signal.TheVariants as signal
use Rattle.desk.specs.declared.call.Answer.{Answer}
use Rattle.desk.specs.declared.call.Answer.TheVariants.{Done, NotPresent, AlreadyPresent, Full}
use Rattle.desk.specs.State.{DeskState, HoldsLegalDesk, Records, IsOverLimit}
use Rattle.desk.specs.Effect.{IsEffect}
use Rattle.members.specs.Rows.{changes_by}
use Rattle.events.specs.declared.event.Event.{Event}
use Rattle.events.specs.declared.event.Event.TheVariants.{Hear, Tick, Select, Ingress, Work}
use Rattle.events.specs.declared.job.Job.{Job}
use Rattle.events.specs.declared.job.Job.TheVariants.{Packet, Request, Resend, Pli, Report, Goodbye}
use Rattle.events.specs.declared.output.Out.{Out}
use Rattle.events.specs.declared.output.Out.TheVariants.{Refused, Busy, Idle, Lost}
use Rattle.events.specs.declared.output.Refusal.TheVariants.{Desk}
use Rattle.events.specs.declared.output.DeskRefusal.TheVariants as desk
use Rattle.core_steps.specs.declared.ring.TheConstants.{JOB_LIMIT}
use Rattle.desk_calls.specs.DeskCalls.{stay_call, picture_call}
use Rattle.legs.specs.Legs.{job_datagrams, legs_after}
use Rattle.desk_calls.specs.Head.{upstream_report}
use Rattle.desk_calls.specs.Notification.{notification_datagrams, pending_of, Pending}
use Rattle.core_steps.specs.World.{WorldState, WorkerState, Task, order, push, pulse, expire, report, Hand, free, doing, telling}
use Rattle.core_steps.specs.Happening.{RecordedCall, Happening, Worked, giving}
use Rattle.core_steps.specs.Hearing.{IsHearing, ticking, selecting}

-- ---- a call of a desk

-- the desk records the call, with its effect
pub record IsRecordedCall (p : ℕ) (d : DeskState) (call : DeskCall)
    (a : RecordedCall) : Type 0 where
  pub publisher : a.publisher ≡ p
  pub names : a.call ≡ call
  pub records : Records d call a.number a.answer a.desk
  pub effect : IsEffect (announced_of d.bounds) (announced_of a.desk.bounds) a.effect
  pub legal : HoldsLegalDesk a.desk

-- or its history is full, and nothing changes
abbrev pub Replies : ℕ → DeskState → DeskCall → Option RecordedCall → Type 0
Replies p d call None = IsOverLimit d call
Replies p d call (Some a) = IsRecordedCall p d call a

-- a refused call is told of by its number
abbrev pub refusals : Answer → List Out
refusals (Done pli kept) = []
refusals (NotPresent stay) = Refused (Desk desk.NotPresent) ∷ []
refusals (AlreadyPresent stay) = Refused (Desk desk.AlreadyPresent) ∷ []
refusals Full = Refused (Desk desk.Full) ∷ []

abbrev pub unrecorded_out : List Out
unrecorded_out = Refused (Desk desk.HistoryFull) ∷ []

abbrev pub pending_datagrams : WorldState → Pending → List Out
pending_datagrams w p =
    notification_datagrams w.setup.table w.setup.unit w.rows p.notification p.effect

-- ---- the ingress

-- the task is done, and this is given out
abbrev pub done_task : WorldState → Task → List Out → Happening
done_task w t outs = record (giving w outs) { did = t ∷ [] }

abbrev pub ingress_asked : WorldState → Task → ℕ → Option RecordedCall → Happening
ingress_asked w t p None = record (done_task w t unrecorded_out) { unrecorded = p ∷ [] }
ingress_asked w t p (Some a) =
    record (done_task w t (refusals a.answer)) {
      asked = a ∷ [];
      pending = pending_of a.publisher None a.answer a.effect;
    }

-- the task asks the publisher's desk; there is none of a publisher that isn't there
abbrev pub IngressAsks : WorldState → Task → ℕ → DeskCall → Option DeskState → Happening → Type 0
IngressAsks w t p call None h = h ≡ done_task w t []
IngressAsks w t p call (Some d) h =
    (reply : Option RecordedCall) × Replies p d call reply × (h ≡ ingress_asked w t p reply)

abbrev pub AsksDesk : WorldState → Task → ℕ → DeskCall → Happening → Type 0
AsksDesk w t p call h = IngressAsks w t p call (slice_get w.desks p) h

-- an order names a leg and a stay of it; it is nobody's where there is no such leg, or the stay is 0
abbrev pub OrderAsks : WorldState → Task → Option (ℕ × DeskCall) → Happening → Type 0
OrderAsks w t None h = h ≡ done_task w t []
OrderAsks w t (Some (p, call)) h = AsksDesk w t p call h

-- the worker's hand and legs stay, and the job stands behind those in its ring
abbrev pub putting : ℕ → WorkerState → Job → Worked
putting k s job =
    record { worker = k; taken = []; put = job ∷ []; finished = []; hand = s.hand; legs = s.legs }

-- the job goes into the ring of its worker, or is given up where as many wait there as may
abbrev pub pushing : WorldState → ℕ → Job → Option WorkerState → Happening
pushing w k job None = done_task w (push k job) []
pushing w k job (Some s) =
    if nat_le JOB_LIMIT (length s.jobs)
    then record (done_task w (push k job) (Lost k ∷ [])) {
      given_up = record { worker = k; job = job } ∷ [];
    }
    else record (done_task w (push k job) []) { worked = putting k s job ∷ [] }

-- a report to a publisher, with the block about it, where a packet of it was received
pub record IsReporting (w : WorldState) (p : ℕ) (h : Happening) : Type 0 where
  pub block : Option Block
  pub answer : IsBlockAnswer (reception_at w.room p) w.room.moment
      (source_at w.room.endpoints p) block
  pub does : h ≡ record (done_task w (report p) (upstream_report w.setup.unit p block)) {
    calls = MakeBlock p ∷ [];
  }

abbrev pub DoesTask : WorldState → Task → Happening → Type 0
DoesTask w (order (Arrive leg stay)) h =
    OrderAsks w (order (Arrive leg stay)) (stay_call w.setup.table leg stay change.Arrive) h
DoesTask w (order (Depart leg stay)) h =
    OrderAsks w (order (Depart leg stay)) (stay_call w.setup.table leg stay change.Depart) h
DoesTask w (order (Route leg stay turn on)) h =
    h ≡ record (done_task w (order (Route leg stay turn on)) []) {
      changes = changes_by (length w.rows) (Route leg stay turn on);
    }
DoesTask w (push k job) h = h ≡ pushing w k job (slice_get w.workers k)
DoesTask w (pulse p) h = AsksDesk w (pulse p) p (Time w.room.moment signal.Tick) h
DoesTask w (expire p) h = AsksDesk w (expire p) p (Time w.room.moment signal.Expire) h
DoesTask w (report p) h = IsReporting w p h

-- the notification that waits, or the oldest task, or nothing
abbrev pub DoesNext : WorldState → Option Pending → List Task → Happening → Type 0
DoesNext w (Some p) tasks h = h ≡ record (giving w (pending_datagrams w p)) { pending = None }
DoesNext w None [] h = h ≡ giving w (Idle ∷ [])
DoesNext w None (t ∷ tasks) h = DoesTask w t h

-- ---- a worker

-- this was done at the worker, and this is given out
abbrev pub working : WorldState → Worked → List Out → Happening
working w d outs = record (giving w outs) { worked = d ∷ [] }

-- the worker's hand is this one from then on
abbrev pub with_hand : ℕ → WorkerState → List Job → Hand → Worked
with_hand k s finished hand =
    record { worker = k; taken = []; put = []; finished = finished; hand = hand; legs = s.legs }

abbrev pub taking : ℕ → WorkerState → Job → Worked
taking k s job = record {
  worker = k;
  taken = job ∷ [];
  put = [];
  finished = [];
  hand = doing job;
  legs = s.legs;
}

abbrev pub hand_of : Option Pending → Hand
hand_of None = free
hand_of (Some p) = telling p

abbrev pub worker_asked : WorldState → ℕ → WorkerState → Job → Option ℕ → ℕ → Option RecordedCall
    → Happening
worker_asked w k s job leg p None =
    record (working w (with_hand k s (job ∷ []) free) unrecorded_out) { unrecorded = p ∷ [] }
worker_asked w k s job leg p (Some a) =
    record (working w
    (with_hand k s (job ∷ []) (hand_of (pending_of a.publisher leg a.answer a.effect)))
    (refusals a.answer)) {
      asked = a ∷ [];
    }

-- the job asks a desk; one that names no leg or no stay does nothing
abbrev pub WorkerAsks : WorldState → ℕ → WorkerState → Job → Option ℕ → ℕ → DeskCall
    → Option DeskState → Happening → Type 0
WorkerAsks w k s job leg p call None h = h ≡ working w (with_hand k s (job ∷ []) free) []
WorkerAsks w k s job leg p call (Some d) h =
    (reply : Option RecordedCall) × Replies p d call reply
    × (h ≡ worker_asked w k s job leg p reply)

abbrev pub JobAsks : WorldState → ℕ → WorkerState → Job → Option ℕ → Option (ℕ × DeskCall)
    → Happening → Type 0
JobAsks w k s job leg None h = h ≡ working w (with_hand k s (job ∷ []) free) []
JobAsks w k s job leg (Some (p, call)) h = WorkerAsks w k s job leg p call (slice_get w.desks p) h

-- what the job makes of the worker's legs, and what goes out
abbrev pub forwarding : WorldState → ℕ → WorkerState → Job → Happening
forwarding w k s job =
    working w
    (record {
      worker = k;
      taken = [];
      put = [];
      finished = job ∷ [];
      hand = free;
      legs = legs_after w.rows s.legs job;
    })
    (job_datagrams w.rows s.legs job)

abbrev pub DoesJob : WorldState → ℕ → WorkerState → Job → Happening → Type 0
DoesJob w k s (Packet publisher bytes) h = h ≡ forwarding w k s (Packet publisher bytes)
DoesJob w k s (Resend leg stay nack) h = h ≡ forwarding w k s (Resend leg stay nack)
DoesJob w k s (Report leg stay sr) h = h ≡ forwarding w k s (Report leg stay sr)
DoesJob w k s (Goodbye leg) h = h ≡ forwarding w k s (Goodbye leg)
DoesJob w k s (Request leg stay word) h =
    (tuple : Tuple) × (word_of tuple ≡ word)
    × JobAsks w k s (Request leg stay word) (Some leg)
    (stay_call w.setup.table leg stay (change.Request tuple)) h
DoesJob w k s (Pli leg moment) h =
    JobAsks w k s (Pli leg moment) None (picture_call w.setup.table leg moment) h

abbrev pub WorksOn : WorldState → ℕ → WorkerState → Hand → List Job → Happening → Type 0
WorksOn w k s (telling p) jobs h = h ≡ working w (with_hand k s [] free) (pending_datagrams w p)
WorksOn w k s (doing job) jobs h = DoesJob w k s job h
WorksOn w k s free [] h = h ≡ giving w (Idle ∷ [])
WorksOn w k s free (job ∷ jobs) h = h ≡ working w (taking k s job) []

-- there is no such worker
abbrev pub Works : WorldState → ℕ → Option WorkerState → Happening → Type 0
Works w k None h = h ≡ giving w (Idle ∷ [])
Works w k (Some s) h = WorksOn w k s s.hand s.jobs h

-- ---- an event

abbrev pub is_empty : List Task → Bool
is_empty [] = true
is_empty (t ∷ tasks) = false

-- the ingress has something to do
abbrev pub is_busy : WorldState → Bool
is_busy w = is_some w.pending || not (is_empty w.tasks)

-- nothing is taken in while the ingress has something to do
abbrev pub UnlessBusy : WorldState → Happening → Type 0 → Type 0
UnlessBusy w h P = MatchBool (is_busy w) (h ≡ giving w (Busy ∷ [])) P

-- What an event may do (RFC 7667, section 3.7): a datagram, a moment or a selection is taken in, or
-- the ingress or a worker makes a step.
abbrev pub Does : WorldState → Event → Happening → Type 0
Does w (Hear moment endpoint bytes) h = UnlessBusy w h (IsHearing w moment endpoint bytes h)
Does w (Tick moment) h = UnlessBusy w h (h ≡ ticking w moment)
Does w (Select moment leg on) h = UnlessBusy w h (h ≡ selecting w moment leg on)
Does w Ingress h = DoesNext w w.pending w.tasks h
Does w (Work k) h = Works w k (slice_get w.workers k) h
