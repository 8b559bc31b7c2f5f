-- The numbers of the stays that begin.
use Rattle.std.proofs.Common.{◌≡◌, ℕ, zero, suc, ◌+◌, ◌≤◌, List, [], ◌∷◌, ◌++◌, length, refl, sym, ap, subst, ◌∙◌, arith, append_assoc, Ok, Err, Result, Bool, true, false, cond}
use Rattle.std.specs.Prelude.{◌==◌, flat_map, not, ◌&&◌, nat_le, nat_lt, max, count_by}
use Rattle.std.specs.List.{enumerate_from}
use Rattle.std.proofs.lemmas.List.Sums.{sum_by-cons}
use Rattle.members.specs.declared.order.Order.{Order}
use Rattle.members.specs.declared.order.Order.TheVariants.{Arrive, Route}
use Rattle.settings.specs.declared.fault.RoomFault.{RoomFault}
use Rattle.members.specs.declared.presence.Endpoint.{Endpoint}
use Rattle.members.specs.declared.stays.LegStay.{LegStay}
use Rattle.members.specs.declared.stays.TheConstants.{MAX_STAY}
use Rattle.members.specs.Presence.{is_overdue_at, is_present_at, source_at}
use Rattle.settings.specs.Settings.{Configuration}
use Rattle.members.specs.Stays.{Told, without_orders, leave, after_overdue, leaving, is_of, ending, ending_of, endings, begins_with, beginnings, coming_orders, coming_count}
use Rattle.members.specs.Room.{RoomState, Step, after_leaving, after_bye, leg_at, is_selected, takes_turn, row_order, switched_leg, new_room}
use Rattle.members.specs.Calls.{Call, Hear, Bye, Tick, Select, Receive, Report, MakeBlock, step_of, room_of, orders_of, room_after, orders_after, arrival_of, arrivals, RiseWithin}

arrivals-append : (xs ys : List Order) → arrivals (xs ++ ys) ≡ arrivals xs ++ arrivals ys
arrivals-append [] ys = refl
arrivals-append (x ∷ xs) ys = ap (λ l. arrival_of x ++ l) (arrivals-append xs ys) ∙ sym (append_assoc (arrival_of x) (arrivals xs) (arrivals ys))

rise_from : (a b : ℕ) (xs : List ℕ) (c : ℕ) → a ≤ b → RiseWithin b xs c → RiseWithin a xs c
rise_from a b [] c less rise = omega (arith, rise)
rise_from a b (x ∷ xs) c less rise = (omega (arith, rise.0), rise.1)

rise-append : (a : ℕ) (xs : List ℕ) (b : ℕ) (ys : List ℕ) (c : ℕ) → RiseWithin a xs b → RiseWithin b ys c → RiseWithin a (xs ++ ys) c
rise-append a [] b ys c first second = rise_from a b ys c first second
rise-append a (x ∷ xs) b ys c first second = (first.0, rise-append (x + 1) xs b ys c first.1 second)

-- no stay begins as one ends
none_ending : (e k : ℕ) (l : LegStay) → arrivals (ending_of e (k, l)) ≡ []
none_ending e k l = step (is_of e l && not (l.stay == 0))
  where
    step : (b : Bool) → arrivals (cond b (ending k l) []) ≡ []
    step true = refl
    step false = refl

none_endings : (e k : ℕ) (ls : List LegStay) → arrivals (flat_map (ending_of e) (enumerate_from k ls)) ≡ []
none_endings e k [] = refl
none_endings e k (l ∷ ls) =
    arrivals-append (ending_of e (k, l)) (flat_map (ending_of e) (enumerate_from (k + 1) ls))
    ∙ rw (none_ending e k l, none_endings e (k + 1) ls) refl

none_leave : (t : Told) (e : ℕ) → arrivals t.orders ≡ [] → arrivals (leave t e).orders ≡ []
none_leave t e none = arrivals-append t.orders (endings e t.legs) ∙ rw (none, none_endings e 0 t.legs) refl

none_left : (timeout m : ℕ) (t : Told) (n : ℕ) → arrivals t.orders ≡ [] → arrivals (after_overdue timeout m t n).orders ≡ []
none_left timeout m t zero none = none
none_left timeout m t (suc n) none = step (is_overdue_at timeout m (after_overdue timeout m t n).endpoints n) (none_left timeout m t n none)
  where
    step : (b : Bool) → arrivals (after_overdue timeout m t n).orders ≡ []
        → arrivals (cond b (leave (after_overdue timeout m t n) n) (after_overdue timeout m t n)).orders ≡ []
    step true before = none_leave (after_overdue timeout m t n) n before
    step false before = before

none_leaving : (r : RoomState) (m : ℕ) → arrivals (after_leaving r m).orders ≡ []
unfolding leaving
none_leaving r m = none_left r.timeout m (without_orders r.endpoints r.legs) (length r.endpoints) refl

none_gone : (t : Told) (e : ℕ) → arrivals t.orders ≡ [] → arrivals (after_bye t e).orders ≡ []
none_gone t e none = step (is_present_at t.endpoints e)
  where
    step : (b : Bool) → arrivals (cond b (leave t e) t).orders ≡ []
    step true = none_leave t e none
    step false = none

-- the stays that begin are numbered from the next number on
rise_beginnings : (begins : LegStay → Bool) (next k : ℕ) (ls : List LegStay)
    → RiseWithin next (arrivals (beginnings begins next k ls)) (next + count_by begins ls)
rise_beginnings begins next k [] = omega arith
rise_beginnings begins next k (l ∷ ls) =
    subst (λ n. RiseWithin next (arrivals (beginnings begins next k (l ∷ ls))) (next + n)) (sym (sum_by-cons (λ x. cond (begins x) 1 0) l ls))
    (step (begins l) (rise_beginnings begins (next + 1) (k + 1) ls) (rise_beginnings begins next (k + 1) ls))
  where
    step : (b : Bool) → RiseWithin (next + 1) (arrivals (beginnings begins (next + 1) (k + 1) ls)) (next + 1 + count_by begins ls)
        → RiseWithin next (arrivals (beginnings begins next (k + 1) ls)) (next + count_by begins ls)
        → RiseWithin next
        (arrivals (cond b (Arrive k next ∷ Route k next (cond l.selected next l.turn) l.selected ∷ beginnings begins (next + 1) (k + 1) ls)
        (beginnings begins next (k + 1) ls)))
        (next + (cond b 1 0 + count_by begins ls))
    step true more same = (omega arith, subst (RiseWithin (next + 1) (arrivals (beginnings begins (next + 1) (k + 1) ls))) (omega arith) more)
    step false more same = subst (RiseWithin next (arrivals (beginnings begins next (k + 1) ls))) (omega arith) same

rise_coming : (es : List Endpoint) (e next : ℕ) (ls : List LegStay)
    → RiseWithin next (arrivals (coming_orders es e next ls)) (next + coming_count es e ls)
unfolding coming_orders coming_count
rise_coming es e next ls = rise_beginnings (begins_with es e) next 0 ls

-- what one call draws
abbrev Draws : RoomState → Result Step RoomFault → Type 0
Draws r (Ok s) = RiseWithin r.next (arrivals s.orders) s.room.next
Draws r (Err fault) = Unit {0}

draws_if : (r : RoomState) (b : Bool) (x y : Result Step RoomFault) → Draws r x → Draws r y → Draws r (cond b x y)
draws_if r true x y dx dy = dx
draws_if r false x y dx dy = dy

draws_none : (first last : ℕ) (orders : List Order) → arrivals orders ≡ [] → first ≤ last → RiseWithin first (arrivals orders) last
draws_none first last orders none less = rw none less

draws_row : (number : ℕ) (l : LegStay) (t : Told) → arrivals t.orders ≡ [] → arrivals (t.orders ++ row_order number l) ≡ []
draws_row number l t none = arrivals-append t.orders (row_order number l) ∙ rw none (step (l.stay == 0))
  where
    step : (b : Bool) → arrivals (cond b [] (Route number l.stay l.turn l.selected ∷ [])) ≡ []
    step true = refl
    step false = refl

draws : (r : RoomState) (c : Call) → Draws r (step_of r c)
draws r (Tick handed) = draws_none r.next r.next (after_leaving r (max r.moment handed)).orders (none_leaving r (max r.moment handed)) (omega arith)
draws r (Bye handed e) =
    let t = after_leaving r (max r.moment handed) in
    draws_if r (nat_le (length r.endpoints) e) _ _ tt
    (draws_none r.next r.next (after_bye t e).orders (none_gone t e (none_leaving r (max r.moment handed))) (omega arith))
draws r (Hear handed e ssrc) =
    let m = max r.moment handed in
    let t = after_leaving r m in
    let n = coming_count t.endpoints e t.legs in
    draws_if r (nat_le (length r.endpoints) e) _ _ tt
    (draws_if r (not ((source_at r.endpoints e).0 == ssrc)) _ _ tt
    (draws_if r (is_present_at t.endpoints e) _ _ (draws_none r.next r.next t.orders (none_leaving r m) (omega arith))
    (draws_if r (nat_lt MAX_STAY (r.next + n)) _ _ tt
    (rw (arrivals-append t.orders (coming_orders t.endpoints e r.next t.legs), none_leaving r m)
    (rise_coming t.endpoints e r.next t.legs)))))
draws r (Select handed number on) =
    let m = max r.moment handed in
    let t = after_leaving r m in
    let l = leg_at t.legs number in
    draws_if r (nat_le (length r.legs) number) _ _ tt
    (draws_if r (is_selected on l) _ _ (draws_none r.next r.next t.orders (none_leaving r m) (omega arith))
    (draws_if r (takes_turn on l && nat_le MAX_STAY r.next) _ _ tt
    (draws_none r.next (cond (takes_turn on l) (r.next + 1) r.next) (t.orders ++ row_order number (switched_leg on r.next l))
    (draws_row number (switched_leg on r.next l) t (none_leaving r m)) (least (takes_turn on l) r.next))))
  where
    least : (b : Bool) (n : ℕ) → n ≤ cond b (n + 1) n
    least true n = omega arith
    least false n = omega arith
draws r (Receive e seq timestamp) = omega arith
draws r (Report e ntp rtp) = omega arith
draws r (MakeBlock e) = omega arith

rise_after : (r : RoomState) (calls : List Call) → RiseWithin r.next (arrivals (orders_after r calls)) (room_after r calls).next
rise_after r [] = omega arith
rise_after r (c ∷ calls) = step (step_of r c) (draws r c) (λ r'. rise_after r' calls)
  where
    step : (x : Result Step RoomFault) → Draws r x → ((r' : RoomState) → RiseWithin r'.next (arrivals (orders_after r' calls)) (room_after r' calls).next)
        → RiseWithin r.next (arrivals (orders_of x ++ orders_after (room_of r x) calls)) (room_after (room_of r x) calls).next
    step (Err fault) d rest = rest r
    step (Ok s) d rest =
        rw (arrivals-append s.orders (orders_after s.room calls))
        (rise-append r.next (arrivals s.orders) s.room.next (arrivals (orders_after s.room calls)) (room_after s.room calls).next d (rest s.room))

pub rise_law : (s : Configuration) (calls : List Call)
    → RiseWithin 1 (arrivals (orders_after (new_room s) calls)) (room_after (new_room s) calls).next
rise_law s calls = rise_after (new_room s) calls
