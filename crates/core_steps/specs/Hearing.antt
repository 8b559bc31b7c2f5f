-- What the ingress takes in: a datagram, a moment, a selection.
use Rattle.std.specs.Prelude.{◌==◌, ◌≡◌, ℕ, ◌-◌, not, Bool, false, ◌&&◌, List, [], ◌∷◌, ◌++◌, length, map, filter, replicate, slice_get, Option, None, Some, Result, Ok, Err, if◌then◌else◌}
use Rattle.std.specs.Option.{option_map_or}
use Rattle.std.specs.List.{last_or, list_any, enumerate_from, filter_map, flat_map}
use Rattle.settings.specs.declared.fault.RoomFault.{RoomFault}
use Rattle.settings.specs.declared.fault.RoomFault.TheVariants.{UnknownLeg}
use Rattle.members.specs.declared.order.Order.{Order}
use Rattle.members.specs.declared.order.Order.TheVariants.{Arrive, Depart, Route}
use Rattle.settings.specs.declared.settings.LegSettings.{LegSettings}
use Rattle.members.specs.Presence.{is_present_at}
use Rattle.members.specs.Room.{RoomState, Step, leg_at, tick_step, select_step, reception_at}
use Rattle.members.specs.Calls.{Call as RoomCall, Hear, Bye, Tick, Select, Receive, Report as SenderReport, step_of}
use Rattle.members.specs.Stream.{timestamps_of}
use Rattle.events.specs.declared.job.Job.{Job}
use Rattle.events.specs.declared.job.Job.TheVariants.{Packet, Request, Resend, Pli, Report, Goodbye}
use Rattle.datagram.specs.declared.reading.Ask.{Ask}
use Rattle.datagram.specs.declared.reading.Ask.TheVariants.{Rate, Resend as Again, Picture}
use Rattle.events.specs.declared.output.Out.{Out}
use Rattle.events.specs.declared.output.Out.TheVariants.{Refused}
use Rattle.events.specs.declared.output.Refusal.{Refusal}
use Rattle.events.specs.declared.output.Refusal.TheVariants.{Room}
use Rattle.settings.specs.Links.{LinkTable, legs_of, leg_to, worker_of}
use Rattle.desk_calls.specs.DeskCalls.{source_of}
use Rattle.datagram.specs.Reads.{Admission, IsSaidBy, asks_of}
use Rattle.datagram.specs.Saying.{Said, media, leaves, control, Says}
use Rattle.core_steps.specs.declared.rounds.Round.{Round}
use Rattle.core_steps.specs.Rounds.{comes_between, round_with, slots_come}
use Rattle.core_steps.specs.World.{Setup, Task, order, push, pulse, expire, report, WorldState}
use Rattle.core_steps.specs.Happening.{Happening, giving}

-- ---- a datagram

-- what the room is asked: its source is heard at the endpoint, or the endpoint says goodbye
abbrev pub room_call : ℕ → ℕ → Said → RoomCall
room_call moment endpoint (media ssrc seq timestamp octets) = Hear moment endpoint ssrc
room_call moment endpoint leaves = Bye moment endpoint
room_call moment endpoint (control speaker reports tmmbns asks) = Hear moment endpoint speaker

-- what is received then: of sender reports that come at once the last counts
abbrev pub receptions : ℕ → Said → List RoomCall
receptions endpoint (media ssrc seq timestamp octets) = Receive endpoint seq timestamp ∷ []
receptions endpoint leaves = []
receptions endpoint (control speaker reports tmmbns asks) =
    option_map_or (λ (r : ℕ × ℕ). SenderReport endpoint r.0 r.1 ∷ []) (last_or None reports) []

-- the stay of the leg that stands in the room; 0 if none does
abbrev pub leg_stay : RoomState → ℕ → ℕ
leg_stay r leg = (leg_at r.legs leg).stay

-- the worker that owns the leg of this number
abbrev pub owner_of : LinkTable → ℕ → ℕ
owner_of t leg = option_map_or (worker_of t) (slice_get t.legs leg) 0

-- the workers that own one of this publisher's legs that has a stay, by rising number
abbrev pub is_served_by : LinkTable → RoomState → ℕ → ℕ → Bool
is_served_by t r publisher worker =
    list_any (λ leg. not (leg_stay r leg == 0) && (owner_of t leg == worker)) (legs_of t publisher)

abbrev pub numbers_below : ℕ → List ℕ
numbers_below n = map (λ (p : ℕ × ℕ). p.0) (enumerate_from 0 (replicate n 0))

abbrev pub serving : LinkTable → RoomState → ℕ → List ℕ
serving t r publisher = filter (is_served_by t r publisher) (numbers_below t.workers)

-- ---- what follows from the orders of the room themselves

-- a leg that is sent from now on asks for a picture at once, if the settings say so (RFC 4585, section 6.3.1)
abbrev pub picture_task : Setup → RoomState → ℕ → Bool → Option Task
picture_task s r leg on =
    if on && s.rules.early_pictures
    then Some (push (owner_of s.table leg) (Pli leg r.moment)) else None

-- the leg's publisher is gone, and its subscriber is there (RFC 3550, section 6.6)
abbrev pub is_left : LinkTable → RoomState → ℕ → Bool
is_left t r leg =
    option_map_or (λ (l : LegSettings). not (is_present_at r.endpoints l.publisher)
    && is_present_at r.endpoints l.subscriber) (slice_get t.legs leg) false

-- the subscriber of a leg that is left behind is told so, if the settings say so (RFC 3550, section 6.6)
abbrev pub goodbye_task : Setup → RoomState → ℕ → Option Task
goodbye_task s r leg =
    if s.rules.leg_goodbyes && is_left s.table r leg
    then Some (push (owner_of s.table leg) (Goodbye leg)) else None

-- What follows from an order, if the settings say so. A leg that is sent from now on asks for a picture
-- (RFC 4585, section 6.3.1). The subscriber of a leg whose publisher is gone is told (RFC 3550, section 6.6).
abbrev pub task_after : Setup → RoomState → Order → Option Task
task_after s r (Arrive leg stay) = None
task_after s r (Depart leg stay) = goodbye_task s r leg
task_after s r (Route leg stay turn on) = picture_task s r leg on

-- what follows from the orders of a step, in their order
abbrev pub tasks_after : Setup → Step → List Task
tasks_after s step = filter_map (task_after s step.room) step.orders

-- ---- what follows from a datagram

-- whose media an ask is about
abbrev pub media_of : Ask → ℕ
media_of (Rate source word) = source.0
media_of (Again source nack) = source.0
media_of (Picture source) = source.0

abbrev pub job_by : ℕ → ℕ → ℕ → Ask → Job
job_by moment leg stay (Rate source word) = Request leg stay word
job_by moment leg stay (Again source nack) = Resend leg stay nack
job_by moment leg stay (Picture source) = Pli leg moment

-- the job for an ask about a leg, for the leg's owner; none about a leg that isn't there or has no stay
abbrev pub task_on : LinkTable → RoomState → Ask → Option ℕ → Option Task
task_on t r a None = None
task_on t r a (Some leg) =
    if leg_stay r leg == 0 then None
    else Some (push (owner_of t leg) (job_by r.moment leg (leg_stay r leg) a))

abbrev pub task_for : LinkTable → RoomState → ℕ → Ask → Option Task
task_for t r endpoint a = task_on t r a (leg_to t endpoint (media_of a))

-- an ask from which nothing follows is refused
abbrev pub refusal_for : {T : Type 0} → Option T → List Out
refusal_for None = Refused (Room UnknownLeg) ∷ []
refusal_for (Some next) = []

-- the jobs that follow from a datagram, in the order of its packets and entries
abbrev pub jobs_of : LinkTable → RoomState → ℕ → List ℕ → Said → List Task
jobs_of t r endpoint bytes (media ssrc seq timestamp octets) =
    map (λ w. push w (Packet endpoint bytes)) (serving t r endpoint)
jobs_of t r endpoint bytes leaves = []
jobs_of t r endpoint bytes (control speaker reports tmmbns asks) =
    filter_map (task_for t r endpoint) asks

-- each entry that names no leg with a stay of this subscriber is refused by itself
abbrev pub refusals_of : LinkTable → RoomState → ℕ → Said → List Out
refusals_of t r endpoint said = flat_map (λ a. refusal_for (task_for t r endpoint a)) (asks_of said)

abbrev pub tmmbns_of : Said → ℕ
tmmbns_of (media ssrc seq timestamp octets) = 0
tmmbns_of leaves = 0
tmmbns_of (control speaker reports tmmbns asks) = tmmbns

-- the room refused, and nothing else is done
abbrev pub room_refuses : WorldState → RoomFault → Happening
room_refuses w fault = giving w (Refused (Room fault) ∷ [])

abbrev pub hearing_by : WorldState → ℕ → ℕ → List ℕ → Said → Result Step RoomFault → Happening
hearing_by w moment endpoint bytes said (Err fault) = room_refuses w fault
hearing_by w moment endpoint bytes said (Ok step) =
    record (giving w (refusals_of w.setup.table step.room endpoint said)) {
      calls = room_call moment endpoint said ∷ receptions endpoint said;
      made = map order step.orders
          ++ (tasks_after w.setup step ++ jobs_of w.setup.table step.room endpoint bytes said);
      tmmbns = tmmbns_of said;
    }

abbrev pub hearing : WorldState → ℕ → ℕ → List ℕ → Result Said Refusal → Happening
hearing w moment endpoint bytes (Err refusal) = giving w (Refused refusal ∷ [])
hearing w moment endpoint bytes (Ok said) =
    hearing_by w moment endpoint bytes said (step_of w.room (room_call moment endpoint said))

-- what the datagram says is done, or it is refused (RFC 7667, section 3.7)
pub record IsHearing (w : WorldState) (moment endpoint : ℕ) (bytes : List ℕ)
    (h : Happening) : Type 0 where
  pub said : Result Said Refusal
  pub says : Says (source_of w.setup.table endpoint).0 bytes said
  pub does : h ≡ hearing w moment endpoint bytes said

-- The datagram, of the endpoint that this is taken in of, says it.
abbrev pub SaysTaken : WorldState → Admission → List ℕ → Type 0
SaysTaken w t bytes = IsSaidBy (source_of w.setup.table t.endpoint).0 t bytes

-- ---- a moment

abbrev pub present_endpoints : LinkTable → RoomState → List ℕ
present_endpoints t r = filter (is_present_at r.endpoints) (numbers_below (length t.endpoints))

-- requests grow old only if the settings say so
abbrev pub expires : Setup → RoomState → List Task
expires s r = if s.request_ms == 0 then [] else map expire (present_endpoints s.table r)

-- so many slots of the round of reports have come by the room's moment
abbrev pub slots_by : WorldState → RoomState → ℕ
slots_by w r = slots_come w.setup (r.moment - w.round.began)

-- The slot of this number came since the last of those that are done.
abbrev pub is_report_due : WorldState → RoomState → ℕ → Bool
is_report_due w r n = comes_between w.setup w.round.done (slots_by w r) n

-- a report to each of so many endpoints that is present, if its report is due
abbrev pub upstream_reports : RoomState → (ℕ → Bool) → ℕ → List Task
upstream_reports r is_due endpoints =
    map report (filter (λ e. is_present_at r.endpoints e && is_due e) (numbers_below endpoints))

-- a report for the subscriber of a leg in which a stay stands
abbrev pub leg_report : LinkTable → RoomState → ℕ × LegSettings → List Task
leg_report t r (leg, l) =
    if leg_stay r leg == 0 then []
    else push (worker_of t l)
    (Report leg (leg_stay r leg) (timestamps_of (reception_at r l.publisher).report)) ∷ []

-- the same, if the leg's report is due
abbrev pub leg_report_if : LinkTable → RoomState → (ℕ → Bool) → ℕ × LegSettings → List Task
leg_report_if t r is_due (leg, l) = if is_due leg then leg_report t r (leg, l) else []

-- the reports that are due: to those present, then for the legs, each by rising number
abbrev pub reports_due : LinkTable → RoomState → (ℕ → Bool) → ℕ → List Task
reports_due t r is_due endpoints =
    upstream_reports r is_due endpoints
    ++ flat_map (leg_report_if t r is_due) (enumerate_from 0 t.legs)

abbrev pub reports : WorldState → RoomState → List Task
reports w r =
    reports_due w.setup.table r (is_report_due w r) (length w.setup.table.endpoints)

-- those whose reports were due are done
abbrev pub round_after : WorldState → RoomState → Round
round_after w r = round_with w.setup r.moment w.round (slots_by w r)

abbrev pub ticking_by : WorldState → ℕ → Step → Happening
ticking_by w moment step = record (giving w []) {
  calls = Tick moment ∷ [];
  made = map order step.orders ++ tasks_after w.setup step
      ++ map pulse (present_endpoints w.setup.table step.room) ++ expires w.setup step.room
      ++ reports w step.room;
  round = round_after w step.room;
}

-- A moment is taken in (RFC 7667, section 3.7): all that are overdue leave. Tasks follow: a pulse for the desk
-- of each present endpoint, an expire if requests grow old, and reports if they are due.
abbrev pub ticking : WorldState → ℕ → Happening
ticking w moment = ticking_by w moment (tick_step w.room moment)

-- ---- a selection

abbrev pub selecting_by : WorldState → ℕ → ℕ → Bool → Result Step RoomFault → Happening
selecting_by w moment leg on (Err fault) = room_refuses w fault
selecting_by w moment leg on (Ok step) =
    record (giving w []) {
      calls = Select moment leg on ∷ [];
      made = map order step.orders ++ tasks_after w.setup step;
    }

-- a leg is switched on or off, or the room refuses that (RFC 7667, section 3.7)
abbrev pub selecting : WorldState → ℕ → ℕ → Bool → Happening
selecting w moment leg on = selecting_by w moment leg on (select_step w.room moment leg on)
