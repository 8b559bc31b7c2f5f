-- How many orders a call gives at most: each leg ends once and begins once in it.
use Rattle.std.proofs.Common.{◌≡◌, ℕ, zero, suc, ◌+◌, ◌*◌, ◌≤◌, List, [], ◌∷◌, ◌++◌, length, map, refl, ap, ◌∙◌, arith, Ok, Err, Result, Bool, true, false, length-append}
use Rattle.std.specs.Prelude.{◌==◌, ◌&&◌, not, nat_le, nat_lt, max, flat_map, IfOk, if◌then◌else◌}
use Rattle.std.specs.List.{enumerate_from}
use Rattle.std.proofs.lemmas.List.{length-map}
use Rattle.members.specs.declared.order.Order.{Order}
use Rattle.members.specs.declared.order.Order.TheVariants.{Route}
use Rattle.settings.specs.declared.fault.RoomFault.{RoomFault}
use Rattle.settings.specs.declared.fault.RoomFault.TheVariants.{UnknownEndpoint, WrongSsrc, UnknownLeg, StaysSpent}
use Rattle.members.specs.declared.presence.Endpoint.{Endpoint}
use Rattle.members.specs.declared.stays.LegStay.{LegStay}
use Rattle.members.specs.declared.stays.TheConstants.{MAX_STAY}
use Rattle.members.specs.Presence.{is_overdue_at, is_present_at, source_at}
use Rattle.members.specs.Stays.{Told, without_orders, is_of, ending, ending_of, endings, leg_without, leave, after_overdue, leaving, begins_with, beginning, beginnings, coming_count, coming_orders, come}
use Rattle.members.specs.Room.{RoomState, Step, step_with, after_leaving, after_bye, heard_step, heard_again, is_selected, takes_turn, row_order, switched_leg, with_leg, next_after, selected_step, leg_at, anew}
use Rattle.members.specs.Calls.{Call, Hear, Bye, Tick, Select, Receive, Report, MakeBlock, step_of}

-- ---- legs that end

-- the orders by which the stays that stand would end
abbrev standing_orders : LegStay → ℕ
standing_orders l = if l.stay == 0 then 0 else 2

abbrev left_orders : List LegStay → ℕ
left_orders [] = 0
left_orders (l ∷ legs) = standing_orders l + left_orders legs

one_ends : (e k : ℕ) (l : LegStay) → length (ending_of e (k, l)) + standing_orders (leg_without e l) ≤ standing_orders l
one_ends e k l = of (is_of e l) (l.stay == 0) refl
  where
    of : (b s : Bool) → (l.stay == 0) ≡ s
        → length {A = Order} (if b && not s then ending k l else []) + standing_orders (if b then record l { stay = 0 } else l) ≤ standing_orders l
    of true true is = omega arith
    of true false is = let e : standing_orders l ≡ 2 = ap (λ (x : Bool). if x then 0 else 2) is in omega (arith, e)
    of false true is = omega arith
    of false false is = omega arith

all_end : (e k : ℕ) (legs : List LegStay)
    → length (flat_map (ending_of e) (enumerate_from k legs)) + left_orders (map (leg_without e) legs) ≤ left_orders legs
all_end e k [] = omega arith
all_end e k (l ∷ legs) =
    let here = one_ends e k l in
    let more = all_end e (k + 1) legs in
    let both = length-append (ending_of e (k, l)) (flat_map (ending_of e) (enumerate_from (k + 1) legs)) in
    omega (arith, here, more, both)

most_left : (legs : List LegStay) → left_orders legs ≤ 2 * length legs
most_left [] = omega arith
most_left (l ∷ legs) = of (l.stay == 0) (most_left legs)
  where
    of : (s : Bool) → left_orders legs ≤ 2 * length legs → (if s then 0 else 2) + left_orders legs ≤ 2 * length (l ∷ legs)
    of true more = omega (arith, more)
    of false more = omega (arith, more)

-- ---- endpoints that leave

-- after this, so many orders at most were given, and the legs are as many as they were
record AtMost (t u : Told) : Type 0 where
  orders : length u.orders + left_orders u.legs ≤ length t.orders + left_orders t.legs
  legs : length u.legs ≡ length t.legs

same_most : (t : Told) → AtMost t t
same_most t = record { orders = omega arith; legs = refl }

left_most : (t u : Told) (e : ℕ) → AtMost t u → AtMost t (leave u e)
left_most t u e h = record {
  orders =
      let more = all_end e 0 u.legs in
      let size = length-append u.orders (endings e u.legs) in
      let before = h.orders in
      omega (arith, more, size, before);
  legs = length-map u.legs (leg_without e) ∙ h.legs;
}

overdue_most : (timeout moment : ℕ) (t : Told) (n : ℕ) → AtMost t (after_overdue timeout moment t n)
overdue_most timeout moment t zero = same_most t
overdue_most timeout moment t (suc n) =
    of (is_overdue_at timeout moment (after_overdue timeout moment t n).endpoints n) (overdue_most timeout moment t n)
  where
    of : (b : Bool) → AtMost t (after_overdue timeout moment t n)
        → AtMost t (if b then leave (after_overdue timeout moment t n) n else after_overdue timeout moment t n)
    of true h = left_most t (after_overdue timeout moment t n) n h
    of false h = h

leaving_most : (r : RoomState) (moment : ℕ) → AtMost (without_orders r.endpoints r.legs) (after_leaving r moment)
unfolding leaving
leaving_most r moment = overdue_most r.timeout moment (without_orders r.endpoints r.legs) (length r.endpoints)

-- nobody takes a leg along
pub leaving_legs : (r : RoomState) (moment : ℕ) → length (after_leaving r moment).legs ≡ length r.legs
leaving_legs r moment = (leaving_most r moment).legs

bye_most : (t u : Told) (e : ℕ) → AtMost t u → AtMost t (after_bye u e)
bye_most t u e h = of (is_present_at u.endpoints e)
  where
    of : (b : Bool) → AtMost t (if b then leave u e else u)
    of true = left_most t u e h
    of false = h

-- ---- legs that begin

begun_most : (begins : LegStay → Bool) (next number : ℕ) (legs : List LegStay) → length (beginnings begins next number legs) ≤ 2 * length legs
begun_most begins next number [] = omega arith
begun_most begins next number (l ∷ legs) =
    of (begins l) (begun_most begins (next + 1) (number + 1) legs) (begun_most begins next (number + 1) legs)
  where
    of : (b : Bool) → length (beginnings begins (next + 1) (number + 1) legs) ≤ 2 * length legs
        → length (beginnings begins next (number + 1) legs) ≤ 2 * length legs
        → length (if b then beginning number next l ++ beginnings begins (next + 1) (number + 1) legs
        else beginnings begins next (number + 1) legs) ≤ 2 * length (l ∷ legs)
    of true more other = omega (arith, more)
    of false more other = omega (arith, other)

coming_most : (es : List Endpoint) (e next : ℕ) (legs : List LegStay) → length (coming_orders es e next legs) ≤ 2 * length legs
unfolding coming_orders
coming_most es e next legs = begun_most (begins_with es e) next 0 legs

-- ---- calls

abbrev IsFew : RoomState → Step → Type 0
IsFew r s = length s.orders ≤ 4 * length r.legs + 1

-- of what was told from nothing
few_told : (r : RoomState) (u : Told) → AtMost (without_orders r.endpoints r.legs) u → length u.orders ≤ 2 * length r.legs
few_told r u h = let most = most_left r.legs in let told = h.orders in omega (arith, most, told)

few_heard : (r : RoomState) (moment e : ℕ) (u : Told) → AtMost (without_orders r.endpoints r.legs) u → IfOk (heard_step r moment e u) (IsFew r)
few_heard r moment e u h =
    of (is_present_at u.endpoints e) (nat_lt MAX_STAY (r.next + coming_count u.endpoints e u.legs))
  where
    of : (b s : Bool) → IfOk (if b then Ok (step_with r moment r.next (heard_again u moment e))
        else if s then Err StaysSpent
        else Ok (step_with (anew r e) moment (r.next + coming_count u.endpoints e u.legs) (come u moment r.next e))) (IsFew r)
    of true s = let told = few_told r u h in omega (arith, told)
    of false true = tt
    of false false =
        let told = few_told r u h in
        let more = coming_most u.endpoints e r.next u.legs in
        let size = length-append u.orders (coming_orders u.endpoints e r.next u.legs) in
        let legs = h.legs in
        omega (arith, told, more, size, legs)

one_row : (number : ℕ) (l : LegStay) → length (row_order number l) ≤ 1
one_row number l = of (l.stay == 0)
  where
    of : (b : Bool) → length {A = Order} (if b then [] else Route number l.stay l.turn l.selected ∷ []) ≤ 1
    of true = omega arith
    of false = omega arith

few_selected : (r : RoomState) (moment number : ℕ) (u : Told) (on : Bool) (l : LegStay) → AtMost (without_orders r.endpoints r.legs) u
    → IfOk (selected_step r moment u number on l) (IsFew r)
few_selected r moment number u on l h = of (is_selected on l) (takes_turn on l && nat_le MAX_STAY r.next)
  where
    of : (b s : Bool) → IfOk (if b then Ok (step_with r moment r.next u)
        else if s then Err StaysSpent
        else Ok (step_with r moment (next_after on r.next l) (with_leg u number (switched_leg on r.next l)))) (IsFew r)
    of true s = let told = few_told r u h in omega (arith, told)
    of false true = tt
    of false false =
        let told = few_told r u h in
        let more = one_row number (switched_leg on r.next l) in
        let size = length-append u.orders (row_order number (switched_leg on r.next l)) in
        omega (arith, told, more, size)

unless : (r : RoomState) (b : Bool) (fault : RoomFault) (x : Result Step RoomFault) → IfOk x (IsFew r)
    → IfOk (if b then Err fault else x) (IsFew r)
unless r true fault x h = tt
unless r false fault x h = h

-- no call gives more
pub few_orders : (r : RoomState) (c : Call) → IfOk (step_of r c) (λ s. length s.orders ≤ 4 * length r.legs + 1)
few_orders r (Hear moment e ssrc) =
    unless r (nat_le (length r.endpoints) e) UnknownEndpoint _
    (unless r (not ((source_at r.endpoints e).0 == ssrc)) WrongSsrc _
    (few_heard r (max r.moment moment) e (after_leaving r (max r.moment moment)) (leaving_most r (max r.moment moment))))
few_orders r (Bye moment e) =
    unless r (nat_le (length r.endpoints) e) UnknownEndpoint _
    (let told = few_told r (after_bye (after_leaving r (max r.moment moment)) e)
    (bye_most (without_orders r.endpoints r.legs) (after_leaving r (max r.moment moment)) e (leaving_most r (max r.moment moment))) in
    omega (arith, told))
few_orders r (Tick moment) =
    let told = few_told r (after_leaving r (max r.moment moment)) (leaving_most r (max r.moment moment)) in omega (arith, told)
few_orders r (Select moment number on) =
    unless r (nat_le (length r.legs) number) UnknownLeg _
    (few_selected r (max r.moment moment) number (after_leaving r (max r.moment moment)) on
    (leg_at (after_leaving r (max r.moment moment)).legs number) (leaving_most r (max r.moment moment)))
few_orders r (Receive e seq timestamp) = omega arith
few_orders r (Report e ntp rtp) = omega arith
few_orders r (MakeBlock e) = omega arith
