-- The numbers drawn for stays and turns.
use Rattle.std.proofs.Common.{◌≡◌, ℕ, zero, suc, ◌+◌, ◌<◌, List, [], ◌∷◌, ◌++◌, length, refl, sym, ap, subst, ◌∙◌, arith, append_assoc, Ok, Err, Result, Bool, true, false, cond}
use Rattle.std.specs.Prelude.{◌==◌, flat_map, not, ◌&&◌, nat_le, nat_lt, max, count_by}
use Rattle.std.specs.List.{enumerate_from}
use Rattle.std.proofs.lemmas.Bool.Decides.{nat_tests}
use Rattle.std.proofs.lemmas.List.Sums.{sum_by-cons}
use Rattle.members.specs.declared.order.Order.{Order}
use Rattle.members.specs.declared.order.Order.TheVariants.{Arrive, Route}
use Rattle.settings.specs.declared.fault.RoomFault.{RoomFault}
use Rattle.members.specs.declared.presence.Endpoint.{Endpoint}
use Rattle.members.specs.declared.stays.LegStay.{LegStay}
use Rattle.members.specs.declared.stays.TheConstants.{MAX_STAY}
use Rattle.members.specs.Presence.{is_overdue_at, is_present_at, source_at}
use Rattle.settings.specs.Settings.{Configuration}
use Rattle.members.specs.Stays.{Told, without_orders, leave, after_overdue, leaving, is_of, ending, ending_of, endings, begins_with, beginnings, coming_orders, coming_count}
use Rattle.members.specs.Room.{RoomState, Step, after_leaving, after_bye, leg_at, is_selected, takes_turn, row_order, switched_leg, next_after, new_room}
use Rattle.members.specs.Calls.{Call, Hear, Bye, Tick, Select, Receive, Report, MakeBlock, step_of, room_of, orders_of, room_after, orders_after, departures, drawn_of, drawn_numbers, RunsFrom}
use Rattle.members.proofs.EndedLemmas.{Once, once_below, once_leaving, once_call, once_past, once_new, IfOnce}

drawn-append : (xs ys : List Order) → drawn_numbers (xs ++ ys) ≡ drawn_numbers xs ++ drawn_numbers ys
drawn-append [] ys = refl
drawn-append (x ∷ xs) ys = ap (λ l. drawn_of x ++ l) (drawn-append xs ys) ∙ sym (append_assoc (drawn_of x) (drawn_numbers xs) (drawn_numbers ys))

runs-append : (a : ℕ) (xs : List ℕ) (b : ℕ) (ys : List ℕ) (c : ℕ) → RunsFrom a xs b → RunsFrom b ys c → RunsFrom a (xs ++ ys) c
runs-append a [] b ys c first second = subst (λ n. RunsFrom n ys c) (sym first) second
runs-append a (x ∷ xs) b ys c first second = (first.0, runs-append (a + 1) xs b ys c first.1 second)

-- no number is drawn as a stay ends
none_ending : (e k : ℕ) (l : LegStay) → drawn_numbers (ending_of e (k, l)) ≡ []
none_ending e k l = step (is_of e l && not (l.stay == 0))
  where
    step : (b : Bool) → drawn_numbers (cond b (ending k l) []) ≡ []
    step true = refl
    step false = refl

none_endings : (e k : ℕ) (ls : List LegStay) → drawn_numbers (flat_map (ending_of e) (enumerate_from k ls)) ≡ []
none_endings e k [] = refl
none_endings e k (l ∷ ls) =
    drawn-append (ending_of e (k, l)) (flat_map (ending_of e) (enumerate_from (k + 1) ls))
    ∙ rw (none_ending e k l, none_endings e (k + 1) ls) refl

none_leave : (t : Told) (e : ℕ) → drawn_numbers t.orders ≡ [] → drawn_numbers (leave t e).orders ≡ []
none_leave t e none = drawn-append t.orders (endings e t.legs) ∙ rw (none, none_endings e 0 t.legs) refl

none_left : (timeout m : ℕ) (t : Told) (n : ℕ) → drawn_numbers t.orders ≡ [] → drawn_numbers (after_overdue timeout m t n).orders ≡ []
none_left timeout m t zero none = none
none_left timeout m t (suc n) none = step (is_overdue_at timeout m (after_overdue timeout m t n).endpoints n) (none_left timeout m t n none)
  where
    step : (b : Bool) → drawn_numbers (after_overdue timeout m t n).orders ≡ []
        → drawn_numbers (cond b (leave (after_overdue timeout m t n) n) (after_overdue timeout m t n)).orders ≡ []
    step true before = none_leave (after_overdue timeout m t n) n before
    step false before = before

none_leaving : (r : RoomState) (m : ℕ) → drawn_numbers (after_leaving r m).orders ≡ []
unfolding leaving
none_leaving r m = none_left r.timeout m (without_orders r.endpoints r.legs) (length r.endpoints) refl

none_gone : (t : Told) (e : ℕ) → drawn_numbers t.orders ≡ [] → drawn_numbers (after_bye t e).orders ≡ []
none_gone t e none = step (is_present_at t.endpoints e)
  where
    step : (b : Bool) → drawn_numbers (cond b (leave t e) t).orders ≡ []
    step true = none_leave t e none
    step false = none

-- a stay that begins draws its number alone: if the leg is selected it is its turn too
one_beginning : (k next : ℕ) (l : LegStay) → drawn_numbers (Arrive k next ∷ Route k next (cond l.selected next l.turn) l.selected ∷ []) ≡ next ∷ []
one_beginning k next l = step l.selected
  where
    itself : (n : ℕ) → (n == n) ≡ true
    itself n = grind (arith, nat_tests)

    step : (s : Bool) → next ∷ (cond (s && not (cond s next l.turn == next)) (cond s next l.turn ∷ []) [] ++ []) ≡ next ∷ []
    step true = rw (itself next) refl
    step false = refl

runs_beginnings : (begins : LegStay → Bool) (next k : ℕ) (ls : List LegStay)
    → RunsFrom next (drawn_numbers (beginnings begins next k ls)) (next + count_by begins ls)
runs_beginnings begins next k [] = omega arith
runs_beginnings begins next k (l ∷ ls) =
    subst (λ n. RunsFrom next (drawn_numbers (beginnings begins next k (l ∷ ls))) (next + n)) (sym (sum_by-cons (λ x. cond (begins x) 1 0) l ls))
    (step (begins l) (runs_beginnings begins (next + 1) (k + 1) ls) (runs_beginnings begins next (k + 1) ls))
  where
    step : (b : Bool) → RunsFrom (next + 1) (drawn_numbers (beginnings begins (next + 1) (k + 1) ls)) (next + 1 + count_by begins ls)
        → RunsFrom next (drawn_numbers (beginnings begins next (k + 1) ls)) (next + count_by begins ls)
        → RunsFrom next
        (drawn_numbers (cond b (Arrive k next ∷ Route k next (cond l.selected next l.turn) l.selected ∷ beginnings begins (next + 1) (k + 1) ls)
        (beginnings begins next (k + 1) ls)))
        (next + (cond b 1 0 + count_by begins ls))
    step true more same =
        let rest = drawn_numbers (beginnings begins (next + 1) (k + 1) ls) in
        let first : drawn_numbers (Arrive k next ∷ Route k next (cond l.selected next l.turn) l.selected ∷ beginnings begins (next + 1) (k + 1) ls) ≡ next ∷ rest =
        drawn-append (Arrive k next ∷ Route k next (cond l.selected next l.turn) l.selected ∷ []) (beginnings begins (next + 1) (k + 1) ls)
        ∙ ap (λ xs. xs ++ rest) (one_beginning k next l) in
        let all : RunsFrom next (next ∷ rest) (next + (1 + count_by begins ls)) =
        (refl, subst (RunsFrom (next + 1) rest) (omega arith) more) in
        subst (λ xs. RunsFrom next xs (next + (1 + count_by begins ls))) (sym first) all
    step false more same = subst (RunsFrom next (drawn_numbers (beginnings begins next (k + 1) ls))) (omega arith) same

runs_coming : (es : List Endpoint) (e next : ℕ) (ls : List LegStay)
    → RunsFrom next (drawn_numbers (coming_orders es e next ls)) (next + coming_count es e ls)
unfolding coming_orders coming_count
runs_coming es e next ls = runs_beginnings (begins_with es e) next 0 ls

-- a leg that is switched on while its stay stands draws a turn
runs_switched : (number next : ℕ) (on : Bool) (l : LegStay) → l.stay < next
    → RunsFrom next (drawn_numbers (row_order number (switched_leg on next l))) (next_after on next l)
runs_switched number next on l below = step on (l.stay == 0)
  where
    other : (next == l.stay) ≡ false
    other = grind (arith, nat_tests)

    step : (s z : Bool)
        → RunsFrom next
        (drawn_numbers (cond z [] (Route number l.stay (cond (s && not z) next l.turn) s ∷ [])))
        (cond (s && not z) (next + 1) next)
    step true true = refl
    step false true = refl
    step true false = rw other (refl, refl)
    step false false = refl

-- what one call draws
abbrev Draws : RoomState → Result Step RoomFault → Type 0
Draws r (Ok s) = RunsFrom r.next (drawn_numbers s.orders) s.room.next
Draws r (Err fault) = Unit {0}

draws_if : (r : RoomState) (b : Bool) (x y : Result Step RoomFault) → Draws r x → Draws r y → Draws r (cond b x y)
draws_if r true x y dx dy = dx
draws_if r false x y dx dy = dy

draws_none : (next : ℕ) (orders : List Order) → drawn_numbers orders ≡ [] → RunsFrom next (drawn_numbers orders) next
draws_none next orders none = rw none refl

draws_behind : (next last : ℕ) (orders more : List Order) → drawn_numbers orders ≡ [] → RunsFrom next (drawn_numbers more) last → RunsFrom next (drawn_numbers (orders ++ more)) last
draws_behind next last orders more none runs =
    let same : drawn_numbers (orders ++ more) ≡ drawn_numbers more = drawn-append orders more ∙ ap (λ xs. xs ++ drawn_numbers more) none in
    subst (λ xs. RunsFrom next xs last) (sym same) runs

draws : (past : List ℕ) (r : RoomState) (c : Call) → Once past [] r.next r.legs → Draws r (step_of r c)
draws past r (Tick handed) h = draws_none r.next (after_leaving r (max r.moment handed)).orders (none_leaving r (max r.moment handed))
draws past r (Bye handed e) h =
    let t = after_leaving r (max r.moment handed) in
    draws_if r (nat_le (length r.endpoints) e) _ _ tt
    (draws_none r.next (after_bye t e).orders (none_gone t e (none_leaving r (max r.moment handed))))
draws past r (Hear handed e ssrc) h =
    let m = max r.moment handed in
    let t = after_leaving r m in
    let n = coming_count t.endpoints e t.legs in
    draws_if r (nat_le (length r.endpoints) e) _ _ tt
    (draws_if r (not ((source_at r.endpoints e).0 == ssrc)) _ _ tt
    (draws_if r (is_present_at t.endpoints e) _ _ (draws_none r.next t.orders (none_leaving r m))
    (draws_if r (nat_lt MAX_STAY (r.next + n)) _ _ tt
    (draws_behind r.next (r.next + n) t.orders (coming_orders t.endpoints e r.next t.legs) (none_leaving r m)
    (runs_coming t.endpoints e r.next t.legs)))))
draws past r (Select handed number on) h =
    let m = max r.moment handed in
    let t = after_leaving r m in
    let l = leg_at t.legs number in
    draws_if r (nat_le (length r.legs) number) _ _ tt
    (draws_if r (is_selected on l) _ _ (draws_none r.next t.orders (none_leaving r m))
    (draws_if r (takes_turn on l && nat_le MAX_STAY r.next) _ _ tt
    (draws_behind r.next (next_after on r.next l) t.orders (row_order number (switched_leg on r.next l)) (none_leaving r m)
    (runs_switched number r.next on l (once_below past t.orders r.next t.legs (once_leaving past r m h) number)))))
draws past r (Receive e seq timestamp) h = refl
draws past r (Report e ntp rtp) h = refl
draws past r (MakeBlock e) h = refl

runs_after : (past : List ℕ) (r : RoomState) (calls : List Call) → Once past [] r.next r.legs
    → RunsFrom r.next (drawn_numbers (orders_after r calls)) (room_after r calls).next
runs_after past r [] h = refl
runs_after past r (c ∷ calls) h = step (step_of r c) (draws past r c h) (once_call past r c h) (λ past' r' h'. runs_after past' r' calls h')
  where
    step : (x : Result Step RoomFault) → Draws r x → IfOnce past x
        → ((past' : List ℕ) (r' : RoomState) → Once past' [] r'.next r'.legs → RunsFrom r'.next (drawn_numbers (orders_after r' calls)) (room_after r' calls).next)
        → RunsFrom r.next (drawn_numbers (orders_of x ++ orders_after (room_of r x) calls)) (room_after (room_of r x) calls).next
    step (Err fault) d k rest = rest past r h
    step (Ok s) d k rest =
        subst (λ xs. RunsFrom r.next xs (room_after s.room calls).next) (sym (drawn-append s.orders (orders_after s.room calls)))
        (runs-append r.next (drawn_numbers s.orders) s.room.next (drawn_numbers (orders_after s.room calls)) (room_after s.room calls).next d
        (rest (past ++ departures s.orders) s.room (once_past past s.orders s.room.next s.room.legs k)))

pub runs_law : (s : Configuration) (calls : List Call)
    → RunsFrom 1 (drawn_numbers (orders_after (new_room s) calls)) (room_after (new_room s) calls).next
runs_law s calls = runs_after [] (new_room s) calls (once_new s)
