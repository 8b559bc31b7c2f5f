-- Over the calls of a room, no stay begins by the order in which it stands after its end.
use Rattle.std.proofs.Common.{◌≡◌, ◌≢◌, ◌<◌, ◌≤◌, ◌+◌, ℕ, zero, suc, List, [], ◌∷◌, ◌++◌, length, Bool, true, false, cond, Result, Ok, Err, refl, ap, sym, ◌∙◌, subst, append_assoc, arith}
use Rattle.std.specs.Prelude.{map, max, not, ◌&&◌, ◌==◌, nat_le, nat_lt}
use Rattle.std.specs.List.{flat_map, enumerate_from}
use Rattle.std.proofs.lemmas.Grind.{flat_map-append}
use Rattle.settings.specs.declared.fault.RoomFault.{RoomFault}
use Rattle.members.specs.declared.order.Order.{Order}
use Rattle.members.specs.declared.order.Order.TheVariants.{Arrive, Depart, Route}
use Rattle.members.specs.declared.presence.Endpoint.{Endpoint}
use Rattle.members.specs.declared.stays.LegStay.{LegStay}
use Rattle.members.specs.declared.stays.TheConstants.{MAX_STAY}
use Rattle.members.specs.Calls.{Call, Hear, Bye, Tick, Select, Receive, Report, MakeBlock, step_of, room_of, orders_of, room_after, orders_after, arrivals, departure_of, departures, drawn_of, drawn_numbers, RunsFrom}
use Rattle.members.specs.Presence.{is_overdue_at, is_present_at, source_at}
use Rattle.members.specs.Room.{RoomState, Step, new_room, after_leaving, after_bye, leg_at, is_selected, takes_turn, row_order, switched_leg}
use Rattle.settings.specs.Settings.{Configuration}
use Rattle.members.specs.Stays.{Told, without_orders, leave, after_overdue, leaving, is_of, ending, ending_of, endings, leg_without, begins_with, beginning, beginnings, coming_orders, coming_count}
use Rattle.members.proofs.DrawnLemmas.{runs_law}
use Rattle.members.proofs.EndedLemmas.{once_new, once_after, once_below}

-- ---- numbers in lists

abbrev pub IsNotIn : ℕ → List ℕ → Type 0
IsNotIn n [] = Unit {0}
IsNotIn n (x ∷ xs) = (x ≢ n) × IsNotIn n xs

abbrev AreFrom : ℕ → List ℕ → Type 0
AreFrom n [] = Unit {0}
AreFrom n (x ∷ xs) = (n ≤ x) × AreFrom n xs

abbrev AreBelow : ℕ → List ℕ → Type 0
AreBelow n [] = Unit {0}
AreBelow n (x ∷ xs) = (x < n) × AreBelow n xs

pub not_in_left : (n : ℕ) (xs ys : List ℕ) → IsNotIn n (xs ++ ys) → IsNotIn n xs
not_in_left n [] ys h = tt
not_in_left n (x ∷ xs) ys h = (h.0, not_in_left n xs ys h.1)

pub not_in_right : (n : ℕ) (xs ys : List ℕ) → IsNotIn n (xs ++ ys) → IsNotIn n ys
not_in_right n [] ys h = h
not_in_right n (x ∷ xs) ys h = not_in_right n xs ys h.1

not_in_from : (n m : ℕ) (xs : List ℕ) → n < m → AreFrom m xs → IsNotIn n xs
not_in_from n m [] less from = tt
not_in_from n m (x ∷ xs) less from = (λ same. absurd (omega (arith, less, from.0, same)), not_in_from n m xs less from.1)

below-append : (n : ℕ) (xs ys : List ℕ) → AreBelow n xs → AreBelow n ys → AreBelow n (xs ++ ys)
below-append n [] ys first rest = rest
below-append n (x ∷ xs) ys first rest = (first.0, below-append n xs ys first.1 rest)

from_later : (n m : ℕ) (xs : List ℕ) → n ≤ m → AreFrom m xs → AreFrom n xs
from_later n m [] less h = tt
from_later n m (x ∷ xs) less h = (omega (arith, less, h.0), from_later n m xs less h.1)

-- ---- orders

departures-append : (xs ys : List Order) → departures (xs ++ ys) ≡ departures xs ++ departures ys
departures-append xs ys = flat_map-append departure_of xs ys

orders-below : (n : ℕ) (xs ys : List Order) → AreBelow n (departures xs) → AreBelow n (departures ys) → AreBelow n (departures (xs ++ ys))
orders-below n xs ys first rest =
    subst (AreBelow n) (sym (departures-append xs ys)) (below-append n (departures xs) (departures ys) first rest)

-- the stay that an order ends doesn't begin by these
abbrev EndsBehind : Order → List Order → Type 0
EndsBehind (Arrive leg stay) orders = Unit {0}
EndsBehind (Depart leg stay) orders = IsNotIn stay (arrivals orders)
EndsBehind (Route leg stay turn on) orders = Unit {0}

-- no stay begins after its end
abbrev pub EndsLast : List Order → Type 0
EndsLast [] = Unit {0}
EndsLast (o ∷ orders) = EndsBehind o orders × EndsLast orders

pub ends_rest : (xs ys : List Order) → EndsLast (xs ++ ys) → EndsLast ys
ends_rest [] ys h = h
ends_rest (x ∷ xs) ys h = ends_rest xs ys h.1

-- orders that end lesser stays, before all that begin stays from there on
ends_join : (n : ℕ) (xs ys : List Order) → AreBelow n (departures xs) → AreFrom n (arrivals (xs ++ ys)) → EndsLast ys → EndsLast (xs ++ ys)
ends_join n [] ys low high rest = rest
ends_join n (Arrive leg stay ∷ xs) ys low high rest = (tt, ends_join n xs ys low high.1 rest)
ends_join n (Depart leg stay ∷ xs) ys low high rest =
    (not_in_from stay n (arrivals (xs ++ ys)) low.0 high, ends_join n xs ys low.1 high rest)
ends_join n (Route leg stay turn on ∷ xs) ys low high rest = (tt, ends_join n xs ys low high rest)

-- ---- the stays that one call ends were there before it

abbrev AllBelow : ℕ → List LegStay → Type 0
AllBelow n [] = Unit {0}
AllBelow n (l ∷ ls) = (l.stay < n) × AllBelow n ls

by_places : (n : ℕ) (ls : List LegStay) → ((k : ℕ) → (leg_at ls k).stay < n) → AllBelow n ls
by_places n [] each = tt
by_places n (l ∷ ls) each = (each zero, by_places n ls (λ k. each (suc k)))

ended-below : (n e : ℕ) (ls : List LegStay) → 1 ≤ n → AllBelow n ls → AllBelow n (map (leg_without e) ls)
ended-below n e [] some low = tt
ended-below n e (l ∷ ls) some low = (step (is_of e l), ended-below n e ls some low.1)
  where
    step : (b : Bool) → (cond b (record l { stay = 0 }) l).stay < n
    step true = omega (arith, some)
    step false = low.0

ending_of-below : (n e k : ℕ) (l : LegStay) → l.stay < n → AreBelow n (departures (ending_of e (k, l)))
ending_of-below n e k l low = step (is_of e l && not (l.stay == 0))
  where
    step : (b : Bool) → AreBelow n (departures (cond b (ending k l) []))
    step true = (low, tt)
    step false = tt

endings-below : (n e k : ℕ) (ls : List LegStay) → AllBelow n ls → AreBelow n (departures (flat_map (ending_of e) (enumerate_from k ls)))
endings-below n e k [] low = tt
endings-below n e k (l ∷ ls) low =
    orders-below n (ending_of e (k, l)) (flat_map (ending_of e) (enumerate_from (k + 1) ls)) (ending_of-below n e k l low.0)
    (endings-below n e (k + 1) ls low.1)

-- the legs' stays are lesser, and those that ended were
record IsBelow (n : ℕ) (t : Told) : Type 0 where
  legs : AllBelow n t.legs
  ends : AreBelow n (departures t.orders)

leave-below : (n : ℕ) (t : Told) (e : ℕ) → 1 ≤ n → IsBelow n t → IsBelow n (leave t e)
leave-below n t e some b = record {
  legs = ended-below n e t.legs some b.legs;
  ends = orders-below n t.orders (endings e t.legs) b.ends (endings-below n e 0 t.legs b.legs);
}

if-below : (n : ℕ) (b : Bool) (t u : Told) → IsBelow n t → IsBelow n u → IsBelow n (cond b t u)
if-below n true t u first rest = first
if-below n false t u first rest = rest

left-below : (n timeout m : ℕ) (t : Told) (k : ℕ) → 1 ≤ n → IsBelow n t → IsBelow n (after_overdue timeout m t k)
left-below n timeout m t zero some b = b
left-below n timeout m t (suc k) some b =
    let before = left-below n timeout m t k some b in
    if-below n (is_overdue_at timeout m (after_overdue timeout m t k).endpoints k) _ _ (leave-below n (after_overdue timeout m t k) k some before) before

leaving-below : (n : ℕ) (r : RoomState) (m : ℕ) → 1 ≤ n → AllBelow n r.legs → IsBelow n (after_leaving r m)
unfolding leaving
leaving-below n r m some low = left-below n r.timeout m (without_orders r.endpoints r.legs) (length r.endpoints) some (record { legs = low; ends = tt })

gone-below : (n : ℕ) (t : Told) (e : ℕ) → 1 ≤ n → IsBelow n t → IsBelow n (after_bye t e)
gone-below n t e some b = if-below n (is_present_at t.endpoints e) _ _ (leave-below n t e some b) b

beginnings-none : (begins : LegStay → Bool) (next k : ℕ) (ls : List LegStay) → departures (beginnings begins next k ls) ≡ []
beginnings-none begins next k [] = refl
beginnings-none begins next k (l ∷ ls) = step (begins l) (beginnings-none begins (next + 1) (k + 1) ls) (beginnings-none begins next (k + 1) ls)
  where
    step : (b : Bool) → departures (beginnings begins (next + 1) (k + 1) ls) ≡ [] → departures (beginnings begins next (k + 1) ls) ≡ []
        → departures (cond b (beginning k next l ++ beginnings begins (next + 1) (k + 1) ls) (beginnings begins next (k + 1) ls)) ≡ []
    step true more same = more
    step false more same = same

coming-none : (es : List Endpoint) (e next : ℕ) (ls : List LegStay) → departures (coming_orders es e next ls) ≡ []
unfolding coming_orders
coming-none es e next ls = beginnings-none (begins_with es e) next 0 ls

row-none : (number : ℕ) (l : LegStay) → departures (row_order number l) ≡ []
row-none number l = step (l.stay == 0)
  where
    step : (b : Bool) → departures (cond b [] (Route number l.stay l.turn l.selected ∷ [])) ≡ []
    step true = refl
    step false = refl

more-below : (n : ℕ) (xs ys : List Order) → AreBelow n (departures xs) → departures ys ≡ [] → AreBelow n (departures (xs ++ ys))
more-below n xs ys low none = orders-below n xs ys low (subst (AreBelow n) (sym none) tt)

abbrev EndBelow : ℕ → Result Step RoomFault → Type 0
EndBelow n (Ok s) = AreBelow n (departures s.orders)
EndBelow n (Err fault) = Unit {0}

end_if : (n : ℕ) (b : Bool) (x y : Result Step RoomFault) → EndBelow n x → EndBelow n y → EndBelow n (cond b x y)
end_if n true x y first second = first
end_if n false x y first second = second

ends_below : (n : ℕ) (r : RoomState) (c : Call) → 1 ≤ n → AllBelow n r.legs → EndBelow n (step_of r c)
ends_below n r (Tick handed) some low = (leaving-below n r (max r.moment handed) some low).ends
ends_below n r (Bye handed e) some low =
    end_if n (nat_le (length r.endpoints) e) _ _ tt
    (gone-below n (after_leaving r (max r.moment handed)) e some (leaving-below n r (max r.moment handed) some low)).ends
ends_below n r (Hear handed e ssrc) some low =
    let m = max r.moment handed in
    let t = after_leaving r m in
    let before = (leaving-below n r m some low).ends in
    end_if n (nat_le (length r.endpoints) e) _ _ tt
    (end_if n (not ((source_at r.endpoints e).0 == ssrc)) _ _ tt
    (end_if n (is_present_at t.endpoints e) _ _ before
    (end_if n (nat_lt MAX_STAY (r.next + coming_count t.endpoints e t.legs)) _ _ tt
    (more-below n t.orders (coming_orders t.endpoints e r.next t.legs) before (coming-none t.endpoints e r.next t.legs)))))
ends_below n r (Select handed number on) some low =
    let m = max r.moment handed in
    let t = after_leaving r m in
    let before = (leaving-below n r m some low).ends in
    end_if n (nat_le (length r.legs) number) _ _ tt
    (end_if n (is_selected on (leg_at t.legs number)) _ _ before
    (end_if n (takes_turn on (leg_at t.legs number) && nat_le MAX_STAY r.next) _ _ tt
    (more-below n t.orders (row_order number (switched_leg on r.next (leg_at t.legs number))) before
    (row-none number (switched_leg on r.next (leg_at t.legs number))))))
ends_below n r (Receive e seq timestamp) some low = tt
ends_below n r (Report e ntp rtp) some low = tt
ends_below n r (MakeBlock e) some low = tt

orders-below_of : (n : ℕ) (x : Result Step RoomFault) → EndBelow n x → AreBelow n (departures (orders_of x))
orders-below_of n (Ok s) low = low
orders-below_of n (Err fault) low = tt

-- ---- the stays that begin are numbered from the next number on

pub room_after-append : (r : RoomState) (first rest : List Call) → room_after r (first ++ rest) ≡ room_after (room_after r first) rest
room_after-append r [] rest = refl
room_after-append r (c ∷ first) rest = room_after-append (room_of r (step_of r c)) first rest

pub orders_after-append : (r : RoomState) (first rest : List Call)
    → orders_after r (first ++ rest) ≡ orders_after r first ++ orders_after (room_after r first) rest
orders_after-append r [] rest = refl
orders_after-append r (c ∷ first) rest =
    ap (λ (os : List Order). orders_of (step_of r c) ++ os) (orders_after-append (room_of r (step_of r c)) first rest)
    ∙ sym (append_assoc (orders_of (step_of r c)) (orders_after (room_of r (step_of r c)) first)
    (orders_after (room_after (room_of r (step_of r c)) first) rest))

runs_rest : (a : ℕ) (xs ys : List ℕ) (b c : ℕ) → RunsFrom a xs b → RunsFrom a (xs ++ ys) c → RunsFrom b ys c
runs_rest a [] ys b c first whole = subst (λ (k : ℕ). RunsFrom k ys c) first whole
runs_rest a (x ∷ xs) ys b c first whole = runs_rest (a + 1) xs ys b c first.1 whole.1

runs_high : (a : ℕ) (xs : List ℕ) (b : ℕ) → RunsFrom a xs b → AreFrom a xs
runs_high a [] b runs = tt
runs_high a (x ∷ xs) b runs = (omega (arith, runs.0), from_later a (a + 1) xs (omega arith) (runs_high (a + 1) xs b runs.1))

arrivals_high : (n : ℕ) (os : List Order) → AreFrom n (drawn_numbers os) → AreFrom n (arrivals os)
arrivals_high n [] high = tt
arrivals_high n (Arrive leg stay ∷ os) high = (high.0, arrivals_high n os high.1)
arrivals_high n (Depart leg stay ∷ os) high = arrivals_high n os high
arrivals_high n (Route leg stay turn on ∷ os) high = step (on && not (turn == stay)) high (arrivals_high n os)
  where
    step : (b : Bool) → AreFrom n ((cond b (turn ∷ []) []) ++ drawn_numbers os) → (AreFrom n (drawn_numbers os) → AreFrom n (arrivals os))
        → AreFrom n (arrivals os)
    step true h rest = rest h.1
    step false h rest = rest h

begin_high : (c : Configuration) (past calls : List Call)
    → AreFrom (room_after (new_room c) past).next (arrivals (orders_after (room_after (new_room c) past) calls))
begin_high c past calls =
    let r = room_after (new_room c) past in
    let os = orders_after (new_room c) past in
    let more = orders_after r calls in
    let last = (room_after (new_room c) (past ++ calls)).next in
    let whole : RunsFrom 1 (drawn_numbers os ++ drawn_numbers more) last =
    subst (λ (ns : List ℕ). RunsFrom 1 ns last)
    (ap drawn_numbers (orders_after-append (new_room c) past calls) ∙ flat_map-append drawn_of os more)
    (runs_law c (past ++ calls)) in
    arrivals_high r.next more (runs_high r.next (drawn_numbers more) last (runs_rest 1 (drawn_numbers os) (drawn_numbers more) r.next last (runs_law c past) whole))

-- ---- every list of calls

ends_from : (c : Configuration) (past calls : List Call) → EndsLast (orders_after (room_after (new_room c) past) calls)
ends_from c past [] = tt
ends_from c past (x ∷ calls) =
    let r = room_after (new_room c) past in
    let once = once_after [] (new_room c) past (once_new c) in
    let low = ends_below r.next r x once.numbered
    (by_places r.next r.legs (once_below [] (orders_after (new_room c) past) r.next r.legs once)) in
    let rest : EndsLast (orders_after (room_of r (step_of r x)) calls) =
    subst (λ (s : RoomState). EndsLast (orders_after s calls)) (room_after-append (new_room c) past (x ∷ [])) (ends_from c (past ++ x ∷ []) calls) in
    ends_join r.next (orders_of (step_of r x)) (orders_after (room_of r (step_of r x)) calls) (orders-below_of r.next (step_of r x) low)
    (begin_high c past (x ∷ calls)) rest

pub ends_last : (c : Configuration) (calls : List Call) → EndsLast (orders_after (new_room c) calls)
ends_last c calls = ends_from c [] calls
