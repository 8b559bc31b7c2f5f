-- What a datagram, a moment or a selection that is taken in keeps, for the quiet law.
use Rattle.std.proofs.Common.{◌≡◌, ℕ, ◌<◌, List, [], ◌∷◌, ◌++◌, map, refl, sym, ap, subst, ◌∙◌, Option, Some, None, Bool, true, false, cond, Result, Ok}
use Rattle.std.specs.Prelude.{◌==◌, ◌&&◌, filter, flat_map, filter_map, length}
use Rattle.std.specs.List.{AllByRecursion, enumerate_from, last_or, cons_option}
use Rattle.std.specs.Option.{option_map_or}
use Rattle.settings.specs.declared.fault.RoomFault.{RoomFault}
use Rattle.members.specs.declared.order.Order.{Order}
use Rattle.members.specs.declared.order.Order.TheVariants.{Arrive, Depart, Route}
use Rattle.members.specs.declared.presence.Endpoint.{Endpoint}
use Rattle.settings.specs.declared.settings.LegSettings.{LegSettings}
use Rattle.members.specs.declared.stays.LegStay.{LegStay}
use Rattle.members.specs.Calls.{Call as RoomCall, Report as SenderReport, step_of, room_after, departures}
use Rattle.members.specs.Presence.{is_present_at}
use Rattle.members.specs.Room.{RoomState, Step, reception_at}
use Rattle.members.specs.Stream.{timestamps_of}
use Rattle.settings.specs.Settings.{Configuration}
use Rattle.members.proofs.EndedLemmas.{Once, IfOnce, once_call, once_past, once_below}
use Rattle.members.proofs.StandLemmas.{StandsIn, IfStands, stands}
use Rattle.datagram.specs.declared.reading.Ask.{Ask}
use Rattle.datagram.specs.declared.reading.Ask.TheVariants.{Rate, Resend as Again, Picture}
use Rattle.events.specs.declared.job.Job.TheVariants.{Packet, Pli, Report as LegReport, Goodbye}
use Rattle.core_steps.specs.Happening.{RecordedCall}
use Rattle.datagram.specs.Reads.{asks_of}
use Rattle.core_steps.specs.Hearing.{leg_stay, owner_of, receptions, serving, jobs_of, task_on, task_for, job_by, present_endpoints, expires, numbers_below, reports, is_report_due, leg_report, leg_report_if, upstream_reports, is_left, task_after}
use Rattle.datagram.specs.Saying.{Said, media, leaves, control}
use Rattle.settings.specs.Links.{LinkTable, leg_to, table_of, worker_of}
use Rattle.core_steps.specs.Quiet.{HeardRate, rate_of, rate_on}
use Rattle.core_steps.specs.World.{Setup, WorldState, WorkerState, Task, order, push, pulse, expire, report}
use Rattle.desk.specs.State.{DeskState}
use Rattle.core_steps.proofs.QuietRoomLemmas.{Passes, IfPasses, passes}
use Rattle.core_steps.proofs.QuietQueueLemmas.{tasks_asks, rates_asks, tasks_asks-append, asks_if, hand_asks, jobs_asks, AllBelow, NoOrders, no_orders-append, orders_first, waiting_more}
use Rattle.core_steps.proofs.QuietKeptLemmas.{IsPlacedTask, stay_at, IsKeptLeg, IsKept}

-- ---- what follows a call of the room

pub record IsFollowUp (c : Configuration) (r : RoomState) (rest : List Task) (more : List HeardRate) : Type 0 where
  pub none : NoOrders rest
  pub placed : AllByRecursion (IsPlacedTask c) rest
  pub asks : (n : ℕ) → tasks_asks n rest ≡ rates_asks n more
  pub low : (n : ℕ) → AllBelow r.next (rates_asks n more)

pub placed-append : (c : Configuration) (xs ys : List Task) → AllByRecursion (IsPlacedTask c) xs → AllByRecursion (IsPlacedTask c) ys
    → AllByRecursion (IsPlacedTask c) (xs ++ ys)
placed-append c [] ys a b = b
placed-append c (x ∷ xs) ys a b = (a.0, placed-append c xs ys a.1 b)

-- nothing is heard
abbrev pub IsSilent : Configuration → RoomState → List Task → Type 0
IsSilent c r rest = IsFollowUp c r rest []

pub silent-none : (c : Configuration) (r : RoomState) → IsSilent c r []
silent-none c r = record { none = tt; placed = tt; asks = λ n. refl; low = λ n. tt }

pub silent-append : (c : Configuration) (r : RoomState) (xs ys : List Task) → IsSilent c r xs → IsSilent c r ys → IsSilent c r (xs ++ ys)
silent-append c r xs ys a b = record {
  none = no_orders-append xs ys a.none b.none;
  placed = placed-append c xs ys a.placed b.placed;
  asks = λ n. tasks_asks-append n xs ys ∙ (ap (λ (zs : List (ℕ × ℕ)). zs ++ tasks_asks n ys) (a.asks n) ∙ b.asks n);
  low = λ n. tt;
}

silent-if : (c : Configuration) (r : RoomState) (b : Bool) (xs ys : List Task) → IsSilent c r xs → IsSilent c r ys → IsSilent c r (cond b xs ys)
silent-if c r true xs ys a b = a
silent-if c r false xs ys a b = b

-- what asks for no rate comes before what does
pub follow-append : (c : Configuration) (r : RoomState) (xs ys : List Task) (more : List HeardRate) → IsSilent c r xs → IsFollowUp c r ys more
    → IsFollowUp c r (xs ++ ys) more
follow-append c r xs ys more a b = record {
  none = no_orders-append xs ys a.none b.none;
  placed = placed-append c xs ys a.placed b.placed;
  asks = λ n. tasks_asks-append n xs ys ∙ (ap (λ (zs : List (ℕ × ℕ)). zs ++ tasks_asks n ys) (a.asks n) ∙ b.asks n);
  low = b.low;
}

-- what follows from orders asks for no rate
pub silent-after : (c : Configuration) (r : RoomState) (s : Setup) (q : RoomState) (os : List Order)
    → IsSilent c r (filter_map (task_after s q) os)
silent-after c r s q [] = silent-none c r
silent-after c r s q (Arrive leg stay ∷ os) = silent-after c r s q os
silent-after c r s q (Depart leg stay ∷ os) =
    step (s.rules.leg_goodbyes && is_left s.table q leg) (silent-after c r s q os)
  where
    step : (b : Bool) → IsSilent c r (filter_map (task_after s q) os)
        → IsSilent c r (cons_option (cond b (Some (push (owner_of s.table leg) (Goodbye leg))) None) (filter_map (task_after s q) os))
    step true h = record { none = h.none; placed = (tt, h.placed); asks = h.asks; low = λ n. tt }
    step false h = h
silent-after c r s q (Route leg stay turn on ∷ os) = step (on && s.rules.early_pictures) (silent-after c r s q os)
  where
    step : (b : Bool) → IsSilent c r (filter_map (task_after s q) os)
        → IsSilent c r (cons_option (cond b (Some (push (owner_of s.table leg) (Pli leg q.moment))) None) (filter_map (task_after s q) os))
    step true h = record { none = h.none; placed = (tt, h.placed); asks = h.asks; low = λ n. tt }
    step false h = h

silent-packets : (c : Configuration) (r : RoomState) (endpoint : ℕ) (bytes ws : List ℕ)
    → IsSilent c r (map (λ (w : ℕ). push w (Packet endpoint bytes)) ws)
silent-packets c r endpoint bytes [] = silent-none c r
silent-packets c r endpoint bytes (w ∷ ws) =
    let h = silent-packets c r endpoint bytes ws in
    record { none = h.none; placed = (tt, h.placed); asks = h.asks; low = λ n. tt }

silent-pulses : (c : Configuration) (r : RoomState) (ps : List ℕ) → IsSilent c r (map pulse ps)
silent-pulses c r [] = silent-none c r
silent-pulses c r (p ∷ ps) =
    let h = silent-pulses c r ps in
    record { none = h.none; placed = (tt, h.placed); asks = h.asks; low = λ n. tt }

silent-expires : (c : Configuration) (r : RoomState) (ps : List ℕ) → IsSilent c r (map expire ps)
silent-expires c r [] = silent-none c r
silent-expires c r (p ∷ ps) =
    let h = silent-expires c r ps in
    record { none = h.none; placed = (tt, h.placed); asks = h.asks; low = λ n. tt }

silent-reports : (c : Configuration) (r : RoomState) (ps : List ℕ) → IsSilent c r (map report ps)
silent-reports c r [] = silent-none c r
silent-reports c r (p ∷ ps) =
    let h = silent-reports c r ps in
    record { none = h.none; placed = (tt, h.placed); asks = h.asks; low = λ n. tt }

silent-one : (c : Configuration) (r : RoomState) (t : LinkTable) (q : RoomState) (l : ℕ × LegSettings) → IsSilent c r (leg_report t q l)
silent-one c r t q (leg, l) = step (leg_stay q leg == 0)
  where
    step : (b : Bool)
        → IsSilent c r (cond b [] (push (worker_of t l) (LegReport leg (leg_stay q leg) (timestamps_of (reception_at q l.publisher).report)) ∷ []))
    step true = silent-none c r
    step false = record { none = tt; placed = (tt, tt); asks = λ n. refl; low = λ n. tt }

silent-if-due : (c : Configuration) (r : RoomState) (t : LinkTable) (q : RoomState) (is_due : ℕ → Bool) (l : ℕ × LegSettings)
    → IsSilent c r (leg_report_if t q is_due l)
silent-if-due c r t q is_due (leg, l) =
    silent-if c r (is_due leg) (leg_report t q (leg, l)) [] (silent-one c r t q (leg, l)) (silent-none c r)

silent-legs : (c : Configuration) (r : RoomState) (t : LinkTable) (q : RoomState) (is_due : ℕ → Bool) (ls : List (ℕ × LegSettings))
    → IsSilent c r (flat_map (leg_report_if t q is_due) ls)
silent-legs c r t q is_due [] = silent-none c r
silent-legs c r t q is_due (l ∷ ls) =
    silent-append c r (leg_report_if t q is_due l) (flat_map (leg_report_if t q is_due) ls) (silent-if-due c r t q is_due l)
    (silent-legs c r t q is_due ls)

pub silent-moment : (c : Configuration) (w : WorldState) (r : RoomState)
    → IsSilent c r (map pulse (present_endpoints w.setup.table r) ++ (expires w.setup r ++ reports w r))
silent-moment c w r =
    let t = w.setup.table in
    let due : ℕ → Bool = is_report_due w r in
    silent-append c r (map pulse (present_endpoints w.setup.table r)) (expires w.setup r ++ reports w r)
    (silent-pulses c r (present_endpoints w.setup.table r))
    (silent-append c r (expires w.setup r) (reports w r)
    (silent-if c r (w.setup.request_ms == 0) [] (map expire (present_endpoints w.setup.table r)) (silent-none c r)
    (silent-expires c r (present_endpoints w.setup.table r)))
    (silent-append c r (upstream_reports r due (length t.endpoints)) (flat_map (leg_report_if t r due) (enumerate_from 0 t.legs))
    (silent-reports c r (filter (λ e. is_present_at r.endpoints e && due e) (numbers_below (length t.endpoints))))
    (silent-legs c r t r due (enumerate_from 0 t.legs))))

-- ---- an entry becomes a request, if a stay stands

more_asks : (c : Configuration) (r : RoomState) (low : (n : ℕ) → leg_stay r n < r.next) (a : Ask) (endpoint : ℕ) (rest : List Task) (more : List HeardRate)
    → IsFollowUp c r rest more
    → IsFollowUp c r (cons_option (task_for (table_of c) r endpoint a) rest) (rate_of (table_of c) r endpoint a ++ more)
more_asks c r low (Rate source word) endpoint rest more h = step (leg_to (table_of c) endpoint source.0)
  where
    rate : (leg : ℕ) → (b : Bool)
        → IsFollowUp c r
        (cons_option (cond b None (Some (push (owner_of (table_of c) leg) (job_by r.moment leg (leg_stay r leg) (Rate source word))))) rest)
        (cond b [] (record { leg = leg; stay = leg_stay r leg; word = word } ∷ []) ++ more)
    rate leg true = h
    rate leg false = record {
      none = h.none;
      placed = (refl, h.placed);
      asks = λ n. ap (λ (xs : List (ℕ × ℕ)). asks_if (leg == n) (leg_stay r leg) word ++ xs) (h.asks n);
      low = λ n. below n (leg == n);
    }
      where
        below : (n : ℕ) (b : Bool) → AllBelow r.next (asks_if b (leg_stay r leg) word ++ rates_asks n more)
        below n true = (low leg, h.low n)
        below n false = h.low n

    step : (o : Option ℕ) → IsFollowUp c r (cons_option (task_on (table_of c) r (Rate source word) o) rest) (rate_on r word o ++ more)
    step None = h
    step (Some leg) = rate leg (leg_stay r leg == 0)
more_asks c r low (Again source nack) endpoint rest more h = step (leg_to (table_of c) endpoint source.0)
  where
    step : (o : Option ℕ) → IsFollowUp c r (cons_option (task_on (table_of c) r (Again source nack) o) rest) more
    step None = h
    step (Some leg) = other (leg_stay r leg == 0)
      where
        other : (b : Bool)
            → IsFollowUp c r (cons_option (cond b None (Some (push (owner_of (table_of c) leg) (job_by r.moment leg (leg_stay r leg) (Again source nack))))) rest) more
        other true = h
        other false = record { none = h.none; placed = (tt, h.placed); asks = h.asks; low = h.low }
more_asks c r low (Picture source) endpoint rest more h = step (leg_to (table_of c) endpoint source.0)
  where
    step : (o : Option ℕ) → IsFollowUp c r (cons_option (task_on (table_of c) r (Picture source) o) rest) more
    step None = h
    step (Some leg) = other (leg_stay r leg == 0)
      where
        other : (b : Bool)
            → IsFollowUp c r (cons_option (cond b None (Some (push (owner_of (table_of c) leg) (job_by r.moment leg (leg_stay r leg) (Picture source))))) rest) more
        other true = h
        other false = record { none = h.none; placed = (tt, h.placed); asks = h.asks; low = h.low }

entries_follow : (c : Configuration) (r : RoomState) (low : (n : ℕ) → leg_stay r n < r.next) (endpoint : ℕ) (asks : List Ask)
    → IsFollowUp c r (filter_map (task_for (table_of c) r endpoint) asks) (flat_map (rate_of (table_of c) r endpoint) asks)
entries_follow c r low endpoint [] = silent-none c r
entries_follow c r low endpoint (a ∷ asks) =
    more_asks c r low a endpoint (filter_map (task_for (table_of c) r endpoint) asks) (flat_map (rate_of (table_of c) r endpoint) asks)
    (entries_follow c r low endpoint asks)

pub datagram_follows : (c : Configuration) (r : RoomState) (low : (n : ℕ) → leg_stay r n < r.next) (endpoint : ℕ) (bytes : List ℕ) (said : Said)
    → IsFollowUp c r (jobs_of (table_of c) r endpoint bytes said) (flat_map (rate_of (table_of c) r endpoint) (asks_of said))
datagram_follows c r low endpoint bytes (media ssrc seq timestamp octets) = silent-packets c r endpoint bytes (serving (table_of c) r endpoint)
datagram_follows c r low endpoint bytes leaves = silent-none c r
datagram_follows c r low endpoint bytes (control speaker reports tmmbns asks) = entries_follow c r low endpoint asks

-- ---- what is received changes no stay

pub record IsLike (r q : RoomState) : Type 0 where
  pub endpoints : q.endpoints ≡ r.endpoints
  pub legs : q.legs ≡ r.legs
  pub next : q.next ≡ r.next

pub received-like : (r : RoomState) (endpoint : ℕ) (said : Said) → IsLike r (room_after r (receptions endpoint said))
received-like r endpoint (media ssrc seq timestamp octets) = record { endpoints = refl; legs = refl; next = refl }
received-like r endpoint leaves = record { endpoints = refl; legs = refl; next = refl }
received-like r endpoint (control speaker reports tmmbns asks) = step (last_or None reports)
  where
    step : (o : Option (ℕ × ℕ))
        → IsLike r (room_after r (option_map_or (λ (t : ℕ × ℕ). SenderReport endpoint t.0 t.1 ∷ []) o []))
    step None = record { endpoints = refl; legs = refl; next = refl }
    step (Some t) = record { endpoints = refl; legs = refl; next = refl }

pub kept-like : (c : Configuration) (r q : RoomState) (tasks : List Task) (desks : List DeskState) (workers : List WorkerState)
    (rates : List HeardRate) (asked : List RecordedCall) → IsLike r q
    → IsKept c r.endpoints r.legs r.next tasks desks workers rates asked → IsKept c q.endpoints q.legs q.next tasks desks workers rates asked
kept-like c r q tasks desks workers rates asked like h =
    subst (λ (es : List Endpoint). IsKept c es q.legs q.next tasks desks workers rates asked) (sym like.endpoints)
    (subst (λ (ls : List LegStay). IsKept c r.endpoints ls q.next tasks desks workers rates asked) (sym like.legs)
    (subst (λ (n : ℕ). IsKept c r.endpoints r.legs n tasks desks workers rates asked) (sym like.next) h))

-- ---- a call of the room, and what follows

module _ (c : Configuration) (r : RoomState) (call : RoomCall) (s : Step) (desks : List DeskState) (workers : List WorkerState)
    (rates : List HeardRate) (asked : List RecordedCall) (accepted : step_of r call ≡ Ok s)
    (h : IsKept c r.endpoints r.legs r.next [] desks workers rates asked) where
  standing : StandsIn r
  standing = record { stand = h.stand; numbered = h.once.numbered }

  stands_then : StandsIn s.room
  stands_then = subst (λ (x : Result Step RoomFault). IfStands x) accepted (stands r call standing)

  once_then : Once h.past s.orders s.room.next s.room.legs
  once_then = subst (λ (x : Result Step RoomFault). IfOnce h.past x) accepted (once_call h.past r call h.once)

  passes_then : (n : ℕ) → Passes n r s
  passes_then n = subst (λ (x : Result Step RoomFault). IfPasses n r x) accepted (passes n r call standing)

  pub low_then : (n : ℕ) → leg_stay s.room n < s.room.next
  low_then n = once_below h.past s.orders s.room.next s.room.legs once_then n

  pub kept_taken : (rest : List Task) (more : List HeardRate) → IsFollowUp c s.room rest more
      → IsKept c s.room.endpoints s.room.legs s.room.next (map order s.orders ++ rest) desks workers (rates ++ more) asked
  kept_taken rest more follow = record {
    stand = stands_then.stand;
    past = h.past ++ departures s.orders;
    once = once_past h.past s.orders s.room.next s.room.legs once_then;
    first = orders_first s.orders rest follow.none;
    placed = placed-append c (map order s.orders) rest (placed_orders s.orders) follow.placed;
    worker_count = h.worker_count;
    workers_placed = h.workers_placed;
    desk_count = h.desk_count;
    desks_kept = h.desks_kept;
    legs_kept = λ n l at. leg n l (h.legs_kept n l at);
  }
    where
      placed_orders : (os : List Order) → AllByRecursion (IsPlacedTask c) (map order os)
      placed_orders [] = tt
      placed_orders (o ∷ os) = (tt, placed_orders os)

      leg : (n : ℕ) (l : LegSettings) → IsKeptLeg c n l r.next (stay_at r.legs n) [] desks workers rates asked
          → IsKeptLeg c n l s.room.next (stay_at s.room.legs n) (map order s.orders ++ rest) desks workers (rates ++ more) asked
      leg n l k = record {
        stay = k.stay;
        done = k.done;
        asking = k.asking;
        waiting = λ x at. waiting_more n (hand_asks n x.hand) (jobs_asks n x.jobs) rates k.stay k.done r.next s.room.next (stay_at r.legs n)
            (stay_at s.room.legs n) s.orders rest more (passes_then n).follows (passes_then n).onward follow.none (follow.asks n) (follow.low n)
            (k.waiting x at);
      }
