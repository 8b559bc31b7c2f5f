-- Reports among the tasks that were made: those that are due, made where a moment was taken in.
use Rattle.std.proofs.Common.{◌≡◌, ◌∙◌, ℕ, List, [], ◌∷◌, ◌++◌, length, map, Bool, true, false, cond, Option, None, Some, refl, ap}
use Rattle.std.proofs.lemmas.List.Elements.{filter-append}
use Rattle.std.specs.Prelude.{◌==◌, ◌&&◌, filter, if◌then◌else◌}
use Rattle.std.specs.List.{flat_map, filter_map, cons_option, enumerate_from}
use Rattle.members.specs.declared.order.Order.{Order}
use Rattle.members.specs.declared.order.Order.TheVariants.{Arrive, Depart, Route}
use Rattle.settings.specs.declared.settings.LegSettings.{LegSettings}
use Rattle.members.specs.Presence.{is_present_at}
use Rattle.members.specs.Room.{RoomState, Step, reception_at}
use Rattle.members.specs.Stream.{timestamps_of}
use Rattle.datagram.specs.declared.reading.Ask.{Ask}
use Rattle.datagram.specs.declared.reading.Ask.TheVariants.{Rate, Resend as Again, Picture}
use Rattle.datagram.specs.Saying.{Said, media, leaves, control}
use Rattle.events.specs.declared.job.Job.TheVariants.{Packet, Pli, Report, Goodbye}
use Rattle.settings.specs.Links.{LinkTable, leg_to, worker_of}
use Rattle.core_steps.specs.Hearing.{expires, is_left, is_report_due, job_by, jobs_of, leg_report, leg_report_if, leg_stay, media_of, numbers_below, owner_of, present_endpoints, reports, serving, task_after, task_for, task_on, tasks_after}
use Rattle.core_steps.specs.Reports.{is_report}
use Rattle.core_steps.specs.World.{Setup, WorldState, Task, order, push, pulse, expire, report}

-- the reports among tasks
abbrev told : List Task → List Task
told ts = filter is_report ts

none_append : (xs ys : List Task) → told xs ≡ [] → told ys ≡ [] → told (xs ++ ys) ≡ []
none_append xs ys none more = filter-append is_report xs ys ∙ ap (λ (l : List Task). l ++ told ys) none ∙ more

-- those of the second alone
behind_none : (xs ys : List Task) → told xs ≡ [] → told (xs ++ ys) ≡ told ys
behind_none xs ys none = filter-append is_report xs ys ∙ ap (λ (l : List Task). l ++ told ys) none

none_map : {X : Type 0} (f : X → Task) (xs : List X) → ((x : X) → is_report (f x) ≡ false) → told (map f xs) ≡ []
none_map f [] each = refl
none_map f (x ∷ xs) each =
    ap (λ (b : Bool). cond b (f x ∷ told (map f xs)) (told (map f xs))) (each x) ∙ none_map f xs each

all_map : {X : Type 0} (f : X → Task) (xs : List X) → ((x : X) → is_report (f x) ≡ true) → told (map f xs) ≡ map f xs
all_map f [] each = refl
all_map f (x ∷ xs) each =
    ap (λ (b : Bool). cond b (f x ∷ told (map f xs)) (told (map f xs))) (each x) ∙ ap (λ (l : List Task). f x ∷ l) (all_map f xs each)

all_flat : {X : Type 0} (f : X → List Task) (xs : List X) → ((x : X) → told (f x) ≡ f x) → told (flat_map f xs) ≡ flat_map f xs
all_flat f [] each = refl
all_flat f (x ∷ xs) each =
    filter-append is_report (f x) (flat_map f xs) ∙ ap (λ (l : List Task). l ++ told (flat_map f xs)) (each x)
    ∙ ap (λ (l : List Task). f x ++ l) (all_flat f xs each)

abbrev tells : Option Task → Bool
tells None = false
tells (Some t) = is_report t

none_filter : {X : Type 0} (f : X → Option Task) (xs : List X) → ((x : X) → tells (f x) ≡ false) → told (filter_map f xs) ≡ []
none_filter f [] each = refl
none_filter f (x ∷ xs) each = step (f x) (each x) (none_filter f xs each)
  where
    step : (o : Option Task) → tells o ≡ false → told (filter_map f xs) ≡ [] → told (cons_option o (filter_map f xs)) ≡ []
    step None none rest = rest
    step (Some t) none rest = ap (λ (b : Bool). cond b (t ∷ told (filter_map f xs)) (told (filter_map f xs))) none ∙ rest

tells_if : (b : Bool) (x y : Option Task) → tells x ≡ false → tells y ≡ false → tells (if b then x else y) ≡ false
tells_if true x y none more = none
tells_if false x y none more = more

-- ---- what is made where no moment is taken in

tells_after : (s : Setup) (r : RoomState) (o : Order) → tells (task_after s r o) ≡ false
tells_after s r (Arrive leg stay) = refl
tells_after s r (Depart leg stay) =
    tells_if (s.rules.leg_goodbyes && is_left s.table r leg) (Some (push (owner_of s.table leg) (Goodbye leg))) None refl refl
tells_after s r (Route leg stay turn on) =
    tells_if (on && s.rules.early_pictures) (Some (push (owner_of s.table leg) (Pli leg r.moment))) None refl refl

tells_job : (w : ℕ) (moment leg stay : ℕ) (a : Ask) → is_report (push w (job_by moment leg stay a)) ≡ false
tells_job w moment leg stay (Rate source word) = refl
tells_job w moment leg stay (Again source nack) = refl
tells_job w moment leg stay (Picture source) = refl

tells_on : (t : LinkTable) (r : RoomState) (a : Ask) (leg : Option ℕ) → tells (task_on t r a leg) ≡ false
tells_on t r a None = refl
tells_on t r a (Some leg) =
    tells_if (leg_stay r leg == 0) None (Some (push (owner_of t leg) (job_by r.moment leg (leg_stay r leg) a))) refl
    (tells_job (owner_of t leg) r.moment leg (leg_stay r leg) a)

none_heard : (t : LinkTable) (r : RoomState) (endpoint : ℕ) (bytes : List ℕ) (said : Said) → told (jobs_of t r endpoint bytes said) ≡ []
none_heard t r endpoint bytes (media ssrc seq timestamp octets) =
    none_map (λ (w : ℕ). push w (Packet endpoint bytes)) (serving t r endpoint) (λ w. refl)
none_heard t r endpoint bytes leaves = refl
none_heard t r endpoint bytes (control speaker said tmmbns asks) =
    none_filter (task_for t r endpoint) asks (λ a. tells_on t r a (leg_to t endpoint (media_of a)))

none_after : (s : Setup) (step : Step) → told (tasks_after s step) ≡ []
none_after s step = none_filter (task_after s step.room) step.orders (tells_after s step.room)

pub none_selected : (s : Setup) (step : Step) → told (map order step.orders ++ tasks_after s step) ≡ []
none_selected s step =
    none_append (map order step.orders) (tasks_after s step) (none_map order step.orders (λ o. refl)) (none_after s step)

pub none_taken : (s : Setup) (step : Step) (endpoint : ℕ) (bytes : List ℕ) (said : Said)
    → told (map order step.orders ++ (tasks_after s step ++ jobs_of s.table step.room endpoint bytes said)) ≡ []
none_taken s step endpoint bytes said =
    none_append (map order step.orders) (tasks_after s step ++ jobs_of s.table step.room endpoint bytes said)
    (none_map order step.orders (λ o. refl))
    (none_append (tasks_after s step) (jobs_of s.table step.room endpoint bytes said) (none_after s step)
    (none_heard s.table step.room endpoint bytes said))

-- ---- what is made where a moment is taken in

none_expires : (s : Setup) (r : RoomState) → told (expires s r) ≡ []
none_expires s r = step (s.request_ms == 0)
  where
    step : (b : Bool) → told (if b then [] else map expire (present_endpoints s.table r)) ≡ []
    step true = refl
    step false = none_map expire (present_endpoints s.table r) (λ p. refl)

all_leg : (t : LinkTable) (r : RoomState) (p : ℕ × LegSettings) → told (leg_report t r p) ≡ leg_report t r p
all_leg t r (leg, l) = step (leg_stay r leg == 0)
  where
    one : List Task
    one = push (worker_of t l) (Report leg (leg_stay r leg) (timestamps_of (reception_at r l.publisher).report)) ∷ []

    step : (b : Bool) → told (if b then [] else one) ≡ (if b then [] else one)
    step true = refl
    step false = refl

all_leg_if : (t : LinkTable) (r : RoomState) (is_due : ℕ → Bool) (p : ℕ × LegSettings)
    → told (leg_report_if t r is_due p) ≡ leg_report_if t r is_due p
all_leg_if t r is_due (leg, l) = step (is_due leg)
  where
    step : (b : Bool) → told (if b then leg_report t r (leg, l) else []) ≡ (if b then leg_report t r (leg, l) else [])
    step true = all_leg t r (leg, l)
    step false = refl

all_reports : (w : WorldState) (r : RoomState) → told (reports w r) ≡ reports w r
all_reports w r =
    let t = w.setup.table in
    let due : ℕ → Bool = is_report_due w r in
    let up : List ℕ = filter (λ e. is_present_at r.endpoints e && due e) (numbers_below (length t.endpoints)) in
    let down : List Task = flat_map (leg_report_if t r due) (enumerate_from 0 t.legs) in
    filter-append is_report (map report up) down ∙ ap (λ (l : List Task). l ++ told down) (all_map report up (λ p. refl))
    ∙ ap (λ (l : List Task). map report up ++ l) (all_flat (leg_report_if t r due) (enumerate_from 0 t.legs) (all_leg_if t r due))

pub all_ticked : (w : WorldState) (s : Step)
    → told (map order s.orders ++ tasks_after w.setup s ++ map pulse (present_endpoints w.setup.table s.room) ++ expires w.setup s.room
    ++ reports w s.room) ≡ reports w s.room
all_ticked w s =
    let first : List Task = map order s.orders ++ tasks_after w.setup s in
    let pulses : List Task = map pulse (present_endpoints w.setup.table s.room) in
    let before : List Task = first ++ pulses ++ expires w.setup s.room in
    behind_none before (reports w s.room)
    (none_append (first ++ pulses) (expires w.setup s.room)
    (none_append first pulses (none_selected w.setup s) (none_map pulse (present_endpoints w.setup.table s.room) (λ p. refl)))
    (none_expires w.setup s.room))
    ∙ all_reports w s.room
