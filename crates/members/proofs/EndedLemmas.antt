-- Stays that ended.
use Rattle.std.proofs.Common.{◌≡◌, ℕ, zero, suc, ◌+◌, ◌<◌, ◌≤◌, List, [], ◌∷◌, ◌++◌, length, get_or, set, map, refl, sym, ap, subst, ◌∙◌, arith, append_assoc, Ok, Err, Result, Bool, true, false, cond, inl, inr}
use Rattle.std.specs.Prelude.{◌==◌, ◌≢◌, flat_map, not, ◌&&◌, nat_le, nat_lt, max, count_by, All}
use Rattle.std.specs.List.{enumerate_from}
use Rattle.std.proofs.lemmas.Bool.Decides.{nat_tests}
use Rattle.std.proofs.lemmas.Bool.{cases_lt}
use Rattle.std.proofs.lemmas.List.Elements.{All-nil, All-cons}
use Rattle.std.proofs.lemmas.List.Sums.{sum_by-cons}
use Rattle.members.specs.declared.order.Order.{Order}
use Rattle.members.specs.declared.order.Order.TheVariants.{Route}
use Rattle.settings.specs.declared.fault.RoomFault.{RoomFault}
use Rattle.members.specs.declared.presence.Endpoint.{Endpoint}
use Rattle.members.specs.declared.stays.LegStay.{LegStay}
use Rattle.members.specs.declared.stays.TheConstants.{MAX_STAY}
use Rattle.settings.specs.declared.settings.LegSettings.{LegSettings}
use Rattle.members.specs.Presence.{is_overdue_at, is_present_at, source_at}
use Rattle.settings.specs.Settings.{Configuration}
use Rattle.members.specs.Stays.{Told, without_orders, leave, after_overdue, leaving, is_of, ending, ending_of, endings, leg_without, begins_with, beginning, beginnings, started_legs, turn_from, coming_orders, coming_count, coming_legs, come}
use Rattle.members.specs.Room.{RoomState, Step, after_leaving, after_bye, leg_at, no_leg, is_selected, takes_turn, row_order, switched_leg, next_after, idle_leg, new_room}
use Rattle.members.specs.Calls.{Call, Hear, Bye, Tick, Select, Receive, Report, MakeBlock, step_of, room_of, orders_of, room_after, orders_after, departure_of, departures, StandsNowhere}

abbrev is_one : ℕ → ℕ → ℕ
is_one a n = cond (a == n) 1 0

-- how often a number stands in a list
pub times : ℕ → List ℕ → ℕ
times n [] = 0
times n (x ∷ xs) = cond (x == n) 1 0 + times n xs

-- how many legs have this stay
pub standing : ℕ → List LegStay → ℕ
standing n [] = 0
standing n (l ∷ ls) = cond (l.stay == n) 1 0 + standing n ls

times-append : (n : ℕ) (xs ys : List ℕ) → times n (xs ++ ys) ≡ times n xs + times n ys
unfolding times
times-append n [] ys = omega arith
times-append n (x ∷ xs) ys = omega (arith, times-append n xs ys)

departures-append : (xs ys : List Order) → departures (xs ++ ys) ≡ departures xs ++ departures ys
departures-append [] ys = refl
departures-append (x ∷ xs) ys = ap (λ l. departure_of x ++ l) (departures-append xs ys) ∙ sym (append_assoc (departure_of x) (departures xs) (departures ys))

ends-append : (n : ℕ) (xs ys : List Order) → times n (departures (xs ++ ys)) ≡ times n (departures xs) + times n (departures ys)
ends-append n xs ys = ap (times n) (departures-append xs ys) ∙ times-append n (departures xs) (departures ys)

same_stay : (a b n : ℕ) → a ≡ b → is_one a n ≡ is_one b n
same_stay a b n e = ap (λ (x : ℕ). is_one x n) e

not_zero : (n : ℕ) → 1 ≤ n → is_one 0 n ≡ 0
not_zero n least = grind (arith, nat_tests)

-- ---- an endpoint leaves: each of its stays goes from the legs to the departures

moved_one : (n e k : ℕ) (l : LegStay) → 1 ≤ n
    → times n (departures (ending_of e (k, l))) + cond ((leg_without e l).stay == n) 1 0 ≡ cond (l.stay == n) 1 0
unfolding times
moved_one n e k l least = step (is_of e l) (l.stay == 0) refl
  where
    step : (a z : Bool) → (l.stay == 0) ≡ z
        → times n (departures (cond (a && not z) (ending k l) [])) + cond ((cond a (record l { stay = 0 }) l).stay == n) 1 0 ≡ cond (l.stay == n) 1 0
    step true true none =
        let is : l.stay ≡ 0 = grind (arith, nat_tests) in
        omega (arith, same_stay l.stay 0 n is)
    step true false some = omega (arith, not_zero n least)
    step false z is = omega arith

moved : (n e k : ℕ) (ls : List LegStay) → 1 ≤ n
    → times n (departures (flat_map (ending_of e) (enumerate_from k ls))) + standing n (map (leg_without e) ls) ≡ standing n ls
unfolding standing times
moved n e k [] least = refl
moved n e k (l ∷ ls) least =
    omega (
      arith,
      ends-append n (ending_of e (k, l)) (flat_map (ending_of e) (enumerate_from (k + 1) ls)),
      moved_one n e k l least,
      moved n e (k + 1) ls least,
    )

-- no stay of number 0 ends
real_one : (e k : ℕ) (l : LegStay) → times 0 (departures (ending_of e (k, l))) ≡ 0
unfolding times
real_one e k l = step (is_of e l) (l.stay == 0) refl
  where
    step : (a z : Bool) → (l.stay == 0) ≡ z → times 0 (departures (cond (a && not z) (ending k l) [])) ≡ 0
    step true true is = refl
    step true false is = rw is refl
    step false z is = refl

real : (e k : ℕ) (ls : List LegStay) → times 0 (departures (flat_map (ending_of e) (enumerate_from k ls))) ≡ 0
unfolding times
real e k [] = refl
real e k (l ∷ ls) =
    omega (arith, ends-append 0 (ending_of e (k, l)) (flat_map (ending_of e) (enumerate_from (k + 1) ls)), real_one e k l, real e (k + 1) ls)

-- ---- an endpoint comes: the stays that begin have numbers that none had

none_depart : (begins : LegStay → Bool) (next k : ℕ) (ls : List LegStay) → departures (beginnings begins next k ls) ≡ []
none_depart begins next k [] = refl
none_depart begins next k (l ∷ ls) = step (begins l) (none_depart begins (next + 1) (k + 1) ls) (none_depart begins next (k + 1) ls)
  where
    step : (b : Bool) → departures (beginnings begins (next + 1) (k + 1) ls) ≡ [] → departures (beginnings begins next (k + 1) ls) ≡ []
        → departures (cond b (beginning k next l ++ beginnings begins (next + 1) (k + 1) ls) (beginnings begins next (k + 1) ls)) ≡ []
    step true more same = more
    step false more same = same

-- the legs of stays that begin, as far as one number goes
record Begun (n next count was now : ℕ) : Type 0 where
  before : n < next → now ≤ was
  behind : next + count ≤ n → now ≤ was
  once : next ≤ n → was ≡ 0 → now ≤ 1

begun_standing : (n : ℕ) (begins : LegStay → Bool) (next : ℕ) (ls : List LegStay)
    → Begun n next (count_by begins ls) (standing n ls) (standing n (started_legs begins next ls))
unfolding standing
begun_standing n begins next [] = record { before = λ less. omega arith; behind = λ more. omega arith; once = λ more none. omega arith }
begun_standing n begins next (l ∷ ls) =
    subst (λ c. Begun n next c (cond (l.stay == n) 1 0 + standing n ls) (standing n (started_legs begins next (l ∷ ls))))
    (sym (sum_by-cons (λ x. cond (begins x) 1 0) l ls))
    (step (begins l) (begun_standing n begins (next + 1) ls) (begun_standing n begins next ls))
  where
    here : (next == n) ≡ false → is_one next n ≡ 0
    here is = rw is refl

    other : ¬ (next ≡ n) → (next == n) ≡ false
    other apart = grind (arith, nat_tests)

    first : (b : Bool) → (next == n) ≡ b → next ≤ n → standing n ls ≡ 0
        → Begun n (next + 1) (count_by begins ls) (standing n ls) (standing n (started_legs begins (next + 1) ls))
        → cond b 1 0 + standing n (started_legs begins (next + 1) ls) ≤ 1
    first true is more none h = let same : next ≡ n = grind (arith, nat_tests) in omega (arith, h.before (omega arith))
    first false is more none h =
        let apart : ¬ (next ≡ n) = λ same. absurd (grind (arith, nat_tests)) in
        let above : next + 1 ≤ n = elim (cases_lt next n) [ inl less ↦ omega arith | inr most ↦ absurd (apart (omega arith)) ] in
        omega (arith, h.once above none)

    step : (b : Bool) → Begun n (next + 1) (count_by begins ls) (standing n ls) (standing n (started_legs begins (next + 1) ls))
        → Begun n next (count_by begins ls) (standing n ls) (standing n (started_legs begins next ls))
        → Begun n next (cond b 1 0 + count_by begins ls) (cond (l.stay == n) 1 0 + standing n ls)
        (standing n (cond b (record l { stay = next; turn = turn_from next l } ∷ started_legs begins (next + 1) ls) (l ∷ started_legs begins next ls)))
    step true h same = record {
      before = λ less. omega (arith, here (other (λ e. omega arith)), h.before (omega arith));
      behind = λ more. omega (arith, here (other (λ e. omega arith)), h.behind (omega arith));
      once = λ more none. first (next == n) refl more (omega arith) h;
    }
    step false h same = record {
      before = λ less. omega (arith, same.before less);
      behind = λ more. omega (arith, same.behind (omega arith));
      once = λ more none. omega (arith, same.once more (omega arith));
    }

coming_standing : (n : ℕ) (es : List Endpoint) (e next : ℕ) (ls : List LegStay)
    → Begun n next (coming_count es e ls) (standing n ls) (standing n (coming_legs es e next ls))
unfolding coming_count coming_legs
coming_standing n es e next ls = begun_standing n (begins_with es e) next ls

coming_departs : (es : List Endpoint) (e next : ℕ) (ls : List LegStay) → departures (coming_orders es e next ls) ≡ []
unfolding coming_orders
coming_departs es e next ls = none_depart (begins_with es e) next 0 ls

-- ---- what always holds: a number stands once, among those that ended before, the orders since, and the legs

pub record Once (past : List ℕ) (orders : List Order) (next : ℕ) (ls : List LegStay) : Type 0 where
  pub bound : (n : ℕ) → 1 ≤ n → times n past + times n (departures orders) + standing n ls ≤ 1
  pub fresh : (n : ℕ) → next ≤ n → times n past + times n (departures orders) + standing n ls ≡ 0
  pub real_past : times 0 past + times 0 (departures orders) ≡ 0
  pub numbered : 1 ≤ next

once_leave : (past : List ℕ) (next : ℕ) (t : Told) (e : ℕ) → Once past t.orders next t.legs → Once past (leave t e).orders next (leave t e).legs
once_leave past next t e h = record {
  bound = λ n least. omega (arith, ends-append n t.orders (endings e t.legs), moved n e 0 t.legs least, h.bound n least);
  fresh = λ n more. omega (arith, ends-append n t.orders (endings e t.legs), moved n e 0 t.legs (omega (arith, h.numbered)), h.fresh n more);
  real_past = omega (arith, ends-append 0 t.orders (endings e t.legs), real e 0 t.legs, h.real_past);
  numbered = h.numbered;
}

once_if : (past : List ℕ) (next : ℕ) (b : Bool) (t u : Told) → Once past t.orders next t.legs → Once past u.orders next u.legs
    → Once past (cond b t u).orders next (cond b t u).legs
once_if past next true t u first second = first
once_if past next false t u first second = second

once_left : (past : List ℕ) (next timeout m : ℕ) (t : Told) (n : ℕ) → Once past t.orders next t.legs
    → Once past (after_overdue timeout m t n).orders next (after_overdue timeout m t n).legs
once_left past next timeout m t zero h = h
once_left past next timeout m t (suc n) h =
    let before = once_left past next timeout m t n h in
    once_if past next (is_overdue_at timeout m (after_overdue timeout m t n).endpoints n) _ _ (once_leave past next (after_overdue timeout m t n) n before) before

pub once_leaving : (past : List ℕ) (r : RoomState) (m : ℕ) → Once past [] r.next r.legs
    → Once past (after_leaving r m).orders r.next (after_leaving r m).legs
unfolding leaving
once_leaving past r m h = once_left past r.next r.timeout m (without_orders r.endpoints r.legs) (length r.endpoints) h

once_gone : (past : List ℕ) (next : ℕ) (t : Told) (e : ℕ) → Once past t.orders next t.legs → Once past (after_bye t e).orders next (after_bye t e).legs
once_gone past next t e h = once_if past next (is_present_at t.endpoints e) _ _ (once_leave past next t e h) h

no_more : (n : ℕ) (orders more : List Order) → departures more ≡ [] → times n (departures (orders ++ more)) ≡ times n (departures orders)
unfolding times
no_more n orders more none = ends-append n orders more ∙ (rw none (omega arith))

once_come : (past : List ℕ) (m next : ℕ) (t : Told) (e : ℕ) → Once past t.orders next t.legs
    → Once past (come t m next e).orders (next + coming_count t.endpoints e t.legs) (come t m next e).legs
once_come past m next t e h = record {
  bound = λ n least. elim (cases_lt n next) [
    | inl less ↦ omega (arith, same n, (coming_standing n t.endpoints e next t.legs).before less, h.bound n least)
    | inr more ↦ omega (arith, same n, h.fresh n more, (coming_standing n t.endpoints e next t.legs).once more (omega (arith, h.fresh n more)))
  ];
  fresh = λ n more. omega (arith, same n, h.fresh n (omega arith), (coming_standing n t.endpoints e next t.legs).behind more);
  real_past = omega (arith, same 0, h.real_past);
  numbered = omega (arith, h.numbered);
}
  where
    same : (n : ℕ) → times n (departures (t.orders ++ coming_orders t.endpoints e next t.legs)) ≡ times n (departures t.orders)
    same n = no_more n t.orders (coming_orders t.endpoints e next t.legs) (coming_departs t.endpoints e next t.legs)

standing-set : (n k : ℕ) (ls : List LegStay) (x : LegStay) → x.stay ≡ (get_or ls k no_leg).stay → standing n (set ls k x) ≡ standing n ls
unfolding standing
standing-set n k [] x same = refl
standing-set n zero (l ∷ ls) x same = omega (arith, same_stay x.stay l.stay n same)
standing-set n (suc k) (l ∷ ls) x same = omega (arith, standing-set n k ls x same)

row_departs : (number : ℕ) (l : LegStay) → departures (row_order number l) ≡ []
row_departs number l = step (l.stay == 0)
  where
    step : (b : Bool) → departures (cond b [] (Route number l.stay l.turn l.selected ∷ [])) ≡ []
    step true = refl
    step false = refl

pub later : (b : Bool) (n : ℕ) → n ≤ cond b (n + 1) n
later true n = omega arith
later false n = omega arith

once_switched : (past : List ℕ) (next : ℕ) (t : Told) (number : ℕ) (on : Bool) → Once past t.orders next t.legs
    → Once past (t.orders ++ row_order number (switched_leg on next (leg_at t.legs number))) (next_after on next (leg_at t.legs number))
    (set t.legs number (switched_leg on next (leg_at t.legs number)))
once_switched past next t number on h = record {
  bound = λ n least. omega (arith, same n, kept n, h.bound n least);
  fresh = λ n more. omega (arith, same n, kept n, h.fresh n (omega (arith, later (takes_turn on l) next)));
  real_past = omega (arith, same 0, h.real_past);
  numbered = omega (arith, h.numbered, later (takes_turn on l) next);
}
  where
    l : LegStay
    l = leg_at t.legs number

    same : (n : ℕ) → times n (departures (t.orders ++ row_order number (switched_leg on next (leg_at t.legs number)))) ≡ times n (departures t.orders)
    same n = no_more n t.orders (row_order number (switched_leg on next (leg_at t.legs number))) (row_departs number (switched_leg on next (leg_at t.legs number)))

    kept : (n : ℕ) → standing n (set t.legs number (switched_leg on next (leg_at t.legs number))) ≡ standing n t.legs
    kept n = standing-set n number t.legs (switched_leg on next (leg_at t.legs number)) refl

itself : (n : ℕ) → is_one n n ≡ 1
itself n = grind (arith, nat_tests)

stands_once : (ls : List LegStay) (k : ℕ) → 1 ≤ (leg_at ls k).stay → 1 ≤ standing (leg_at ls k).stay ls
unfolding standing
stands_once [] k some = absurd (omega arith)
stands_once (l ∷ ls) zero some = omega (arith, itself l.stay)
stands_once (l ∷ ls) (suc k) some = omega (arith, stands_once ls k some)

-- each stay that stands has a number below the next
pub once_below : (past : List ℕ) (orders : List Order) (next : ℕ) (ls : List LegStay) → Once past orders next ls → (k : ℕ) → (leg_at ls k).stay < next
once_below past orders next ls h k = elim (cases_lt (leg_at ls k).stay next) [
  | inl less ↦ less
  | inr more ↦ absurd (omega (arith, h.numbered, h.fresh (leg_at ls k).stay more, stands_once ls k (omega (arith, h.numbered))))
]

-- ---- one call

abbrev pub IfOnce : List ℕ → Result Step RoomFault → Type 0
IfOnce past (Ok s) = Once past s.orders s.room.next s.room.legs
IfOnce past (Err fault) = Unit {0}

if_once : (past : List ℕ) (b : Bool) (x y : Result Step RoomFault) → IfOnce past x → IfOnce past y → IfOnce past (cond b x y)
if_once past true x y first second = first
if_once past false x y first second = second

pub once_call : (past : List ℕ) (r : RoomState) (c : Call) → Once past [] r.next r.legs → IfOnce past (step_of r c)
once_call past r (Tick handed) h = once_leaving past r (max r.moment handed) h
once_call past r (Bye handed e) h =
    let t = after_leaving r (max r.moment handed) in
    if_once past (nat_le (length r.endpoints) e) _ _ tt (once_gone past r.next t e (once_leaving past r (max r.moment handed) h))
once_call past r (Hear handed e ssrc) h =
    let m = max r.moment handed in
    let t = after_leaving r m in
    let after = once_leaving past r m h in
    if_once past (nat_le (length r.endpoints) e) _ _ tt
    (if_once past (not ((source_at r.endpoints e).0 == ssrc)) _ _ tt
    (if_once past (is_present_at t.endpoints e) _ _ after
    (if_once past (nat_lt MAX_STAY (r.next + coming_count t.endpoints e t.legs)) _ _ tt
    (once_come past m r.next t e after))))
once_call past r (Select handed number on) h =
    let m = max r.moment handed in
    let t = after_leaving r m in
    let after = once_leaving past r m h in
    if_once past (nat_le (length r.legs) number) _ _ tt
    (if_once past (is_selected on (leg_at t.legs number)) _ _ after
    (if_once past (takes_turn on (leg_at t.legs number) && nat_le MAX_STAY r.next) _ _ tt
    (once_switched past r.next t number on after)))
once_call past r (Receive e seq timestamp) h = h
once_call past r (Report e ntp rtp) h = h
once_call past r (MakeBlock e) h = h

-- ---- every list of calls

-- orders count alike before and after
once_moved : (past : List ℕ) (orders more : List Order) (next : ℕ) (ls : List LegStay)
    → Once (past ++ departures orders) more next ls → Once past (orders ++ more) next ls
once_moved past orders more next ls h = record {
  bound = λ n least. omega (arith, times-append n past (departures orders), ends-append n orders more, h.bound n least);
  fresh = λ n least. omega (arith, times-append n past (departures orders), ends-append n orders more, h.fresh n least);
  real_past = omega (arith, times-append 0 past (departures orders), ends-append 0 orders more, h.real_past);
  numbered = h.numbered;
}

pub once_past : (past : List ℕ) (orders : List Order) (next : ℕ) (ls : List LegStay)
    → Once past orders next ls → Once (past ++ departures orders) [] next ls
unfolding times
once_past past orders next ls h = record {
  bound = λ n least. omega (arith, times-append n past (departures orders), h.bound n least);
  fresh = λ n least. omega (arith, times-append n past (departures orders), h.fresh n least);
  real_past = omega (arith, times-append 0 past (departures orders), h.real_past);
  numbered = h.numbered;
}

pub once_after : (past : List ℕ) (r : RoomState) (calls : List Call) → Once past [] r.next r.legs
    → Once past (orders_after r calls) (room_after r calls).next (room_after r calls).legs
once_after past r [] h = h
once_after past r (c ∷ calls) h = step (step_of r c) (once_call past r c h) (λ past' r' h'. once_after past' r' calls h')
  where
    step : (x : Result Step RoomFault) → IfOnce past x
        → ((past' : List ℕ) (r' : RoomState) → Once past' [] r'.next r'.legs
        → Once past' (orders_after r' calls) (room_after r' calls).next (room_after r' calls).legs)
        → Once past (orders_of x ++ orders_after (room_of r x) calls) (room_after (room_of r x) calls).next (room_after (room_of r x) calls).legs
    step (Err fault) k rest = rest past r h
    step (Ok s) k rest =
        once_moved past s.orders (orders_after s.room calls) (room_after s.room calls).next (room_after s.room calls).legs
        (rest (past ++ departures s.orders) s.room (once_past past s.orders s.room.next s.room.legs k))

room_after-append : (r : RoomState) (before after : List Call) → room_after r (before ++ after) ≡ room_after (room_after r before) after
room_after-append r [] after = refl
room_after-append r (c ∷ before) after = room_after-append (room_of r (step_of r c)) before after

unstarted_standing : (n : ℕ) (legs : List LegSettings) → 1 ≤ n → standing n (map idle_leg legs) ≡ 0
unfolding standing
unstarted_standing n [] least = refl
unstarted_standing n (l ∷ legs) least = omega (arith, not_zero n least, unstarted_standing n legs least)

pub once_new : (s : Configuration) → Once [] [] 1 (map idle_leg s.legs)
unfolding times
once_new s = record {
  bound = λ n least. omega (arith, unstarted_standing n s.legs least);
  fresh = λ n least. omega (arith, unstarted_standing n s.legs least);
  real_past = refl;
  numbered = omega arith;
}

-- ---- a number that ended stands nowhere

stands_nowhere : (n : ℕ) (ls : List LegStay) → standing n ls ≡ 0 → StandsNowhere ls n
unfolding standing
stands_nowhere n [] none = All-nil (λ (l : LegStay). l.stay ≢ n)
stands_nowhere n (l ∷ ls) none =
    All-cons (λ (l : LegStay). l.stay ≢ n) l ls (λ same. absurd (omega (arith, here same))) (stands_nowhere n ls (omega arith))
  where
    here : l.stay ≡ n → is_one l.stay n ≡ 1
    here same = grind (arith, nat_tests)

each_of : (P : ℕ → Type 0) (xs : List ℕ) → ((n : ℕ) → 1 ≤ times n xs → P n) → All P xs
unfolding times
each_of P [] holds = All-nil P
each_of P (x ∷ xs) holds =
    All-cons P x xs (holds x (omega (arith, here))) (each_of P xs (λ n some. holds n (omega arith)))
  where
    here : is_one x x ≡ 1
    here = grind (arith, nat_tests)

none_stands : (past : List ℕ) (orders : List Order) (next : ℕ) (ls : List LegStay) → Once past orders next ls → All (StandsNowhere ls) past
none_stands past orders next ls h = each_of (StandsNowhere ls) past (λ n some. stands_nowhere n ls (none n some))
  where
    none : (n : ℕ) → 1 ≤ times n past → standing n ls ≡ 0
    none zero some = absurd (omega (arith, h.real_past))
    none (suc n) some = omega (arith, h.bound (suc n) (omega arith))

pub ended_law : (s : Configuration) (before after : List Call)
    → All (StandsNowhere (room_after (new_room s) (before ++ after)).legs) (departures (orders_after (new_room s) before))
ended_law s before after =
    let new = new_room s in
    let half = once_past [] (orders_after new before) (room_after new before).next (room_after new before).legs (once_after [] new before (once_new s)) in
    let whole = once_after (departures (orders_after new before)) (room_after new before) after half in
    subst (λ r. All (StandsNowhere r.legs) (departures (orders_after new before))) (sym (room_after-append new before after))
    (none_stands (departures (orders_after new before)) (orders_after (room_after new before) after)
    (room_after (room_after new before) after).next (room_after (room_after new before) after).legs whole)
