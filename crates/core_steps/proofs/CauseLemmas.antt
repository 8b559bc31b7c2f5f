-- How the parts of a happening hang together: the orders among the tasks that it made are those of the room's calls; and it asked the
-- desk that the task or the job which it did asks.
use Rattle.std.proofs.Common.{◌≡◌, ℕ, List, [], ◌∷◌, ◌++◌, Bool, true, false, Option, None, Some, refl, ap, sym, ◌∙◌, append-nil}
use Rattle.std.specs.Prelude.{◌==◌, ◌&&◌, filter, slice_get, map, length, if◌then◌else◌}
use Rattle.std.specs.List.{flat_map, filter_map, cons_option, last_or, enumerate_from}
use Rattle.std.specs.Option.{option_map_or}
use Rattle.std.proofs.lemmas.Grind.{flat_map-append}
use Rattle.members.specs.declared.order.Order.{Order}
use Rattle.members.specs.declared.order.Order.TheVariants.{Arrive, Depart, Route}
use Rattle.settings.specs.declared.settings.LegSettings.{LegSettings}
use Rattle.members.specs.Presence.{is_present_at}
use Rattle.members.specs.Room.{RoomState, Step, reception_at}
use Rattle.members.specs.Stream.{timestamps_of}
use Rattle.members.specs.Calls.{Report as SenderReport, orders_after}
use Rattle.tmmbr_tuple.specs.declared.tuple.Tuple.{Tuple}
use Rattle.tmmbr_tuple.specs.Tuple.{word_of}
use Rattle.desk.specs.declared.call.Call.{Call as DeskCall}
use Rattle.desk.specs.declared.call.Call.TheVariants.{Time}
use Rattle.desk.specs.declared.call.Change.TheVariants as change
use Rattle.desk.specs.declared.call.Signal.TheVariants as signal
use Rattle.desk.specs.State.{DeskState}
use Rattle.datagram.specs.declared.reading.Ask.{Ask}
use Rattle.events.specs.declared.job.Job.{Job}
use Rattle.events.specs.declared.job.Job.TheVariants.{Packet, Request, Resend, Pli, Report, Goodbye}
use Rattle.desk_calls.specs.DeskCalls.{stay_call, picture_call}
use Rattle.core_steps.specs.Happening.{Happening, RecordedCall, Worked}
use Rattle.core_steps.specs.Hearing.{receptions, jobs_of, is_left, task_after, tasks_after, task_on, task_for, owner_of, job_by, leg_stay, media_of, serving, expires, reports, is_report_due, leg_report, present_endpoints, leg_report_if, numbers_below}
use Rattle.datagram.specs.Saying.{Said, media, leaves, control}
use Rattle.settings.specs.Links.{LinkTable, leg_to, worker_of}
use Rattle.core_steps.specs.Rule.{Replies}
use Rattle.core_steps.specs.World.{Setup, WorldState, Task, order, push, pulse, expire, report, Hand, free, doing, telling}

-- ---- whom an event asks

-- the desk that a task asks, and the call
abbrev pub asked_by_task : WorldState → Task → Option (ℕ × DeskCall)
asked_by_task w (order (Arrive leg stay)) = stay_call w.setup.table leg stay change.Arrive
asked_by_task w (order (Depart leg stay)) = stay_call w.setup.table leg stay change.Depart
asked_by_task w (order (Route leg stay turn on)) = None
asked_by_task w (push k job) = None
asked_by_task w (pulse p) = Some (p, Time w.room.moment signal.Tick)
asked_by_task w (expire p) = Some (p, Time w.room.moment signal.Expire)
asked_by_task w (report p) = None

-- the desk that a job asks, and the call
abbrev pub AskedByJob : WorldState → Job → Option (ℕ × DeskCall) → Type 0
AskedByJob w (Packet publisher bytes) who = who ≡ None
AskedByJob w (Resend leg stay nack) who = who ≡ None
AskedByJob w (Report leg stay sr) who = who ≡ None
AskedByJob w (Goodbye leg) who = who ≡ None
AskedByJob w (Request leg stay word) who =
    (tuple : Tuple) × (word_of tuple ≡ word) × (who ≡ stay_call w.setup.table leg stay (change.Request tuple))
AskedByJob w (Pli leg moment) who = who ≡ picture_call w.setup.table leg moment

-- nothing was done, one task or one job, and it asks this desk
abbrev pub Causes : WorldState → List Task → List Job → Option (ℕ × DeskCall) → Type 0
Causes w [] [] who = who ≡ None
Causes w [] (j ∷ []) who = AskedByJob w j who
Causes w [] (j ∷ (i ∷ jobs)) who = ⊥
Causes w (t ∷ []) [] who = who ≡ asked_by_task w t
Causes w (t ∷ []) (j ∷ jobs) who = ⊥
Causes w (t ∷ (u ∷ ts)) jobs who = ⊥

abbrev pub finished_in : Happening → List Job
finished_in h = flat_map (λ (d : Worked). d.finished) h.worked

-- no desk recorded a call, or had no room for one
pub record AsksNobody (h : Happening) : Type 0 where
  pub asked : h.asked ≡ []
  pub unrecorded : h.unrecorded ≡ []

abbrev pub recorded_of : Option RecordedCall → List RecordedCall
recorded_of None = []
recorded_of (Some a) = a ∷ []

abbrev pub unrecorded_of : ℕ → Option RecordedCall → List ℕ
unrecorded_of p None = p ∷ []
unrecorded_of p (Some a) = []

-- this desk of the publisher recorded the call, or had no room for it
pub record HasAnswered (p : ℕ) (call : DeskCall) (d : DeskState) (h : Happening) : Type 0 where
  pub reply : Option RecordedCall
  pub replies : Replies p d call reply
  pub asked : h.asked ≡ recorded_of reply
  pub unrecorded : h.unrecorded ≡ unrecorded_of p reply

abbrev pub AsksThere : ℕ → DeskCall → Option DeskState → Happening → Type 0
AsksThere p call None h = AsksNobody h
AsksThere p call (Some d) h = HasAnswered p call d h

abbrev pub AsksDeskOf : WorldState → Option (ℕ × DeskCall) → Happening → Type 0
AsksDeskOf w None h = AsksNobody h
AsksDeskOf w (Some (p, call)) h = AsksThere p call (slice_get w.desks p) h

-- the desk that was asked is the one that the task or the job which was done asks
pub record AsksAsDone (w : WorldState) (h : Happening) : Type 0 where
  pub who : Option (ℕ × DeskCall)
  pub cause : Causes w h.did (finished_in h) who
  pub asks : AsksDeskOf w who h

-- ---- what a worker has in hand

abbrev pub in_hand : Hand → List Job
in_hand free = []
in_hand (doing job) = job ∷ []
in_hand (telling p) = []

-- ---- the orders among tasks

abbrev pub order_in : Task → List Order
order_in (order o) = o ∷ []
order_in (push k job) = []
order_in (pulse p) = []
order_in (expire p) = []
order_in (report p) = []

abbrev pub orders_in : List Task → List Order
orders_in ts = flat_map order_in ts

pub orders_in-append : (xs ys : List Task) → orders_in (xs ++ ys) ≡ orders_in xs ++ orders_in ys
orders_in-append xs ys = flat_map-append order_in xs ys

pub orders_in-orders : (os : List Order) → orders_in (map order os) ≡ os
orders_in-orders [] = refl
orders_in-orders (o ∷ os) = ap (λ (xs : List Order). o ∷ xs) (orders_in-orders os)

-- tasks among which there is no order
drop_none : (xs ys : List Task) → orders_in ys ≡ [] → orders_in (xs ++ ys) ≡ orders_in xs
drop_none xs ys none = orders_in-append xs ys ∙ ap (λ (os : List Order). orders_in xs ++ os) none ∙ append-nil (orders_in xs)

pub orders_first : (os : List Order) (ts : List Task) → orders_in ts ≡ [] → orders_in (map order os ++ ts) ≡ os ++ []
orders_first os ts none = drop_none (map order os) ts none ∙ orders_in-orders os ∙ sym (append-nil os)

pub none_append : (xs ys : List Task) → orders_in xs ≡ [] → orders_in ys ≡ [] → orders_in (xs ++ ys) ≡ []
none_append xs ys none more = orders_in-append xs ys ∙ ap (λ (os : List Order). os ++ orders_in ys) none ∙ more

none_map : {X : Type 0} (f : X → Task) (xs : List X) → ((x : X) → order_in (f x) ≡ []) → orders_in (map f xs) ≡ []
none_map f [] each = refl
none_map f (x ∷ xs) each = ap (λ (os : List Order). os ++ orders_in (map f xs)) (each x) ∙ none_map f xs each

none_flat : {X : Type 0} (f : X → List Task) (xs : List X) → ((x : X) → orders_in (f x) ≡ []) → orders_in (flat_map f xs) ≡ []
none_flat f [] each = refl
none_flat f (x ∷ xs) each = none_append (f x) (flat_map f xs) (each x) (none_flat f xs each)

abbrev orders_maybe : Option Task → List Order
orders_maybe None = []
orders_maybe (Some t) = order_in t

none_filter : {X : Type 0} (f : X → Option Task) (xs : List X) → ((x : X) → orders_maybe (f x) ≡ []) → orders_in (filter_map f xs) ≡ []
none_filter f [] each = refl
none_filter f (x ∷ xs) each = step (f x) (each x) (none_filter f xs each)
  where
    step : (o : Option Task) → orders_maybe o ≡ [] → orders_in (filter_map f xs) ≡ [] → orders_in (cons_option o (filter_map f xs)) ≡ []
    step None none rest = rest
    step (Some t) none rest = ap (λ (os : List Order). os ++ orders_in (filter_map f xs)) none ∙ rest

none_if : (b : Bool) (xs ys : List Task) → orders_in xs ≡ [] → orders_in ys ≡ [] → orders_in (if b then xs else ys) ≡ []
none_if true xs ys none more = none
none_if false xs ys none more = more

-- ---- the tasks that follow an event

maybe_if : (b : Bool) (x y : Option Task) → orders_maybe x ≡ [] → orders_maybe y ≡ [] → orders_maybe (if b then x else y) ≡ []
maybe_if true x y none more = none
maybe_if false x y none more = more

none_on : (t : LinkTable) (r : RoomState) (a : Ask) (leg : Option ℕ) → orders_maybe (task_on t r a leg) ≡ []
none_on t r a None = refl
none_on t r a (Some leg) =
    maybe_if (leg_stay r leg == 0) None (Some (push (owner_of t leg) (job_by r.moment leg (leg_stay r leg) a))) refl refl

pub none_heard : (t : LinkTable) (r : RoomState) (endpoint : ℕ) (bytes : List ℕ) (said : Said) → orders_in (jobs_of t r endpoint bytes said) ≡ []
none_heard t r endpoint bytes (media ssrc seq timestamp octets) =
    none_map (λ (w : ℕ). push w (Packet endpoint bytes)) (serving t r endpoint) (λ w. refl)
none_heard t r endpoint bytes leaves = refl
none_heard t r endpoint bytes (control speaker said tmmbns asks) =
    none_filter (task_for t r endpoint) asks (λ a. none_on t r a (leg_to t endpoint (media_of a)))

none_after_one : (s : Setup) (r : RoomState) (o : Order) → orders_maybe (task_after s r o) ≡ []
none_after_one s r (Arrive leg stay) = refl
none_after_one s r (Depart leg stay) =
    maybe_if (s.rules.leg_goodbyes && is_left s.table r leg) (Some (push (owner_of s.table leg) (Goodbye leg))) None refl refl
none_after_one s r (Route leg stay turn on) =
    maybe_if (on && s.rules.early_pictures) (Some (push (owner_of s.table leg) (Pli leg r.moment))) None refl refl

pub none_after : (s : Setup) (step : Step) → orders_in (tasks_after s step) ≡ []
none_after s step = none_filter (task_after s step.room) step.orders (none_after_one s step.room)

none_expires : (s : Setup) (r : RoomState) → orders_in (expires s r) ≡ []
none_expires s r =
    none_if (s.request_ms == 0) [] (map expire (present_endpoints s.table r)) refl (none_map expire (present_endpoints s.table r) (λ p. refl))

none_leg : (t : LinkTable) (r : RoomState) (p : ℕ × LegSettings) → orders_in (leg_report t r p) ≡ []
none_leg t r (leg, l) =
    none_if (leg_stay r leg == 0) []
    (push (worker_of t l) (Report leg (leg_stay r leg) (timestamps_of (reception_at r l.publisher).report)) ∷ []) refl refl

none_leg_if : (t : LinkTable) (r : RoomState) (is_due : ℕ → Bool) (p : ℕ × LegSettings) → orders_in (leg_report_if t r is_due p) ≡ []
none_leg_if t r is_due (leg, l) = none_if (is_due leg) (leg_report t r (leg, l)) [] (none_leg t r (leg, l)) refl

none_reports : (w : WorldState) (r : RoomState) → orders_in (reports w r) ≡ []
none_reports w r =
    let t = w.setup.table in
    let due : ℕ → Bool = is_report_due w r in
    let up : List ℕ = filter (λ e. is_present_at r.endpoints e && due e) (numbers_below (length t.endpoints)) in
    none_append (map report up) (flat_map (leg_report_if t r due) (enumerate_from 0 t.legs)) (none_map report up (λ p. refl))
    (none_flat (leg_report_if t r due) (enumerate_from 0 t.legs) (none_leg_if t r due))

pub orders_ticked : (w : WorldState) (s : Step)
    → orders_in (map order s.orders ++ tasks_after w.setup s ++ map pulse (present_endpoints w.setup.table s.room) ++ expires w.setup s.room
    ++ reports w s.room) ≡ s.orders ++ []
orders_ticked w s =
    let os : List Order = s.orders in
    let r : RoomState = s.room in
    let more : List Task = tasks_after w.setup s in
    let pulses : List Task = map pulse (present_endpoints w.setup.table r) in
    drop_none (map order os ++ more ++ pulses ++ expires w.setup r) (reports w r) (none_reports w r)
    ∙ drop_none (map order os ++ more ++ pulses) (expires w.setup r) (none_expires w.setup r)
    ∙ drop_none (map order os ++ more) pulses (none_map pulse (present_endpoints w.setup.table r) (λ p. refl))
    ∙ orders_first os more (none_after w.setup s)

-- what is received gives no order
pub none_received : (r : RoomState) (endpoint : ℕ) (said : Said) → orders_after r (receptions endpoint said) ≡ []
none_received r endpoint (media ssrc seq timestamp octets) = refl
none_received r endpoint leaves = refl
none_received r endpoint (control speaker said tmmbns asks) = step (last_or None said)
  where
    step : (last : Option (ℕ × ℕ)) → orders_after r (option_map_or (λ (s : ℕ × ℕ). SenderReport endpoint s.0 s.1 ∷ []) last []) ≡ []
    step None = refl
    step (Some s) = refl
