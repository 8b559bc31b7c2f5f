-- How a desk of a house is asked, and what is told then.
use Rattle.std.specs.Prelude.{◌≡◌, ◌==◌, ◌≤◌, ℕ, Bool, true, false, Option, None, Some, List, Result, Ok, MatchOption, MatchBool, MatchResult, option_map, option_and_then, slice_get}
use Rattle.std.specs.Option.{option_map_or}
use Rattle.members.specs.declared.order.Row.{Row}
use Rattle.settings.specs.declared.settings.LegSettings.{LegSettings}
use Rattle.desk.specs.declared.effect.Effect.{Effect}
use Rattle.rate_desk.specs.declared.receipt.Receipt.{Receipt}
use Rattle.rate_desk.specs.declared.receipt.HouseFault.{HouseFault}
use Rattle.desk.specs.State.{DeskState}
use Rattle.rate_desk.specs.Shares.{HoldState, IsLastCall, SeatState, Counts, IsReceiptOf, IsFaultOf, IsTold}
use Rattle.routes.specs.Views.{ReaderView}
use Rattle.events.specs.declared.job.Job.{Job}
use Rattle.events.specs.Jobs.{leg_asking}
use Rattle.desk_calls.specs.declared.notification.Notification.{Notification}
use Rattle.desk_calls.specs.declared.calls.Asks.{Asks}
use Rattle.desk_calls.specs.declared.calls.Asks.TheVariants.{Desk, Nobody}
use Rattle.desk_calls.specs.declared.calls.Question.{Question}
use Rattle.desk_calls.specs.Notification.{told_of, pending_of, notification_datagrams, Pending}
use Rattle.settings.specs.Links.{worker_of}
use Rattle.desk_calls.specs.DeskCalls.{AsksOf}
use Rattle.forwarding.specs.declared.done.Forwarded.{Forwarded}
use Rattle.forwarding.specs.declared.done.ForwardFault.{ForwardFault}
use Rattle.ports.specs.Outside.{SinkView}
use Rattle.forwarding.specs.Sending.{Sends, nothing_done}
use Rattle.forwarding.specs.Forwarding.{NotifierState, ForwarderState, IsView, LeavesRows}

-- what holds of all desks of a house, and of a table of routes: the least time between two PLIs, the age of requests, how many
-- publishers there are, and how many legs
pub record Terms : Type 0 where
  pub gap : ℕ
  pub request_ms : ℕ
  pub publishers : ℕ
  pub legs : ℕ

abbrev pub terms : ℕ → ℕ → ℕ → ℕ → Terms
terms gap request_ms publishers legs =
    record { gap = gap; request_ms = request_ms; publishers = publishers; legs = legs }

-- ---- what a desk answers

-- the receipt of a recorded call, and what the call changed
pub record Reply : Type 0 where
  pub receipt : Receipt
  pub effect : Effect

-- a desk of the house recorded the call of the seat, gave the receipt's answer, and changed this
pub record IsReply (gap request_ms : ℕ) (q : Question) (seat : SeatState) (r : Reply) : Type 0 where
  pub receipt : IsReceiptOf q.publisher q.call seat r.receipt
  pub told : IsTold gap request_ms r.receipt r.effect

-- the house has no such publisher, or its desk doesn't record the call
pub data IsUnanswered (gap request_ms publishers : ℕ) (q : Question)
    (seat : SeatState) : Type 0 where
  nowhere : publishers ≤ q.publisher → IsUnanswered gap request_ms publishers q seat
  unrecorded : (fault : HouseFault) → IsFaultOf gap request_ms q.publisher q.call seat fault
      → IsUnanswered gap request_ms publishers q seat

-- where a desk recorded the call the seat made one call more, and this one; else it is as before
abbrev pub Counted : Question → Option Reply → SeatState → SeatState → Type 0
Counted q None seat later = later ≡ seat
Counted q (Some r) seat later = Counts q.publisher q.call seat later

-- A seat asked this of the house (RFC 5104, section 4.2). A desk recorded it as the seat's one call more, with an answer and an
-- effect, and this is to be told of them; or none did.
pub record IsAsked (gap request_ms publishers : ℕ) (q : Question) (seat later : SeatState)
    (pending : Option Pending) : Type 0 where
  pub reply : Option Reply
  pub is : MatchOption reply (IsUnanswered gap request_ms publishers q seat)
      (IsReply gap request_ms q seat)
  pub counted : Counted q reply seat later
  pub waits : pending ≡ option_and_then
      (λ (r : Reply). pending_of q.publisher q.asked_by r.receipt.answer r.effect) reply

-- the same, where there was anything to ask
abbrev pub MayBeAsked : Terms → Option Question → SeatState → SeatState → Option Pending → Type 0
MayBeAsked t None seat later pending = (later ≡ seat) × (pending ≡ None)
MayBeAsked t (Some q) seat later pending =
    IsAsked t.gap t.request_ms t.publishers q seat later pending

-- What is to be told is of the last call of the desk that is held: it is what that call was answered, and what that call changed
-- in the set that the desk announces (RFC 5104, section 4.2).
pub record IsOfLastCall (hold : HoldState) (pending : Pending) : Type 0 where
  pub receipt : Receipt
  pub former : DeskState
  pub asked_by : Option ℕ
  pub last : IsLastCall receipt pending.effect former hold.desk
  pub notification : pending.notification ≡ told_of hold.publisher asked_by receipt.answer

-- ---- what is told then

-- a picture of the publisher is wanted
abbrev pub picture_of : ℕ → Notification
picture_of publisher = record { publisher = publisher; asked_by = None; pli = true }

-- the rows of a reader before, and the reader after; what a sink was handed before and after
pub record Telling : Type 0 where
  pub former : List Row
  pub next : ReaderView
  pub before : SinkView
  pub after : SinkView

abbrev pub telling : List Row → ReaderView → SinkView → SinkView → Telling
telling former next before after =
    record { former = former; next = next; before = before; after = after }

-- what waits wasn't told, since there was no view or no memory
pub record GivesUp (legs : ℕ) (t : Telling) (fault : ForwardFault) : Type 0 where
  pub handed : t.after ≡ t.before
  pub rows : LeavesRows legs t.former t.next fault

-- what waits was told by a view, or given up
abbrev pub IsTelling : ℕ → NotifierState → Pending → Telling → Result Forwarded ForwardFault
    → Type 0
IsTelling legs n p t result =
    MatchResult result
    (λ done. IsView legs t.next
    × Sends (notification_datagrams n.table n.unit t.next.rows p.notification p.effect) t.before
    t.after done)
    (GivesUp legs t)

-- the same; where nothing waits nobody is told anything
abbrev pub Tells : ℕ → NotifierState → Option Pending → Telling → Result Forwarded ForwardFault
    → Type 0
Tells legs n None t result =
    (result ≡ Ok nothing_done) × (t.next.rows ≡ t.former) × (t.after ≡ t.before)
Tells legs n (Some p) t result = IsTelling legs n p t result

-- a seat before and after, and what was told meanwhile
pub record Asking : Type 0 where
  pub seat : SeatState
  pub later : SeatState
  pub telling : Telling

abbrev pub asking : SeatState → SeatState → Telling → Asking
asking seat later told = record { seat = seat; later = later; telling = told }

-- a desk was asked, where there was anything to ask, and then what followed was told
pub record Notifies (t : Terms) (n : NotifierState) (question : Option Question) (a : Asking)
    (result : Result Forwarded ForwardFault) : Type 0 where
  pub pending : Option Pending
  pub asked : MayBeAsked t question a.seat a.later pending
  pub told : Tells t.legs n pending a.telling result

-- ---- a job that asks a desk

-- the leg is one of the worker's
abbrev pub is_owned : ForwarderState → ℕ → Bool
is_owned f leg =
    option_map_or (λ (l : LegSettings). worker_of f.notifier.table l == f.worker)
    (slice_get f.notifier.table.legs leg) false

-- the job is one for a desk, and its leg is one of the worker's
abbrev pub is_asking : ForwarderState → Job → Bool
is_asking f job = option_map_or (is_owned f) (leg_asking job) false

-- the subscriber of a leg
abbrev pub subscriber_of : ForwarderState → ℕ → Option ℕ
subscriber_of f leg =
    option_map (λ (l : LegSettings). l.subscriber) (slice_get f.notifier.table.legs leg)

-- the subscriber for whom a job asks a desk
abbrev pub subscriber_asking : ForwarderState → Job → Option ℕ
subscriber_asking f job = option_and_then (subscriber_of f) (leg_asking job)

abbrev pub asks_of : Option Question → Asks
asks_of None = Nobody
asks_of (Some q) = Desk q

-- what the job asks of a desk: nothing where it is no job for one, where its leg isn't there or is another worker's, or where
-- its stay is 0 (RFC 5104, section 4.2)
abbrev pub QuestionOf : ForwarderState → Job → Option Question → Type 0
QuestionOf f job question =
    MatchBool (is_asking f job) (AsksOf f.notifier.table job (asks_of question)) (question ≡ None)

-- what the job asks was asked, and what followed was told by a view, or given up (RFC 5104, section 4.2)
pub record Feeds (t : Terms) (f : ForwarderState) (job : Job) (a : Asking)
    (result : Result Forwarded ForwardFault) : Type 0 where
  pub question : Option Question
  pub names : QuestionOf f job question
  pub notifies : Notifies t f.notifier question a result
