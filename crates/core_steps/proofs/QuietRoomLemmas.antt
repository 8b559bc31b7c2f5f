-- What the orders of a room's call say of one leg.
use Rattle.std.proofs.Common.{◌≡◌, ℕ, zero, suc, ◌+◌, ◌<◌, ◌≤◌, List, [], ◌∷◌, ◌++◌, length, get_or, set, map, refl, sym, subst, ◌∙◌, arith, Ok, Err, Result, Bool, true, false, cond}
use Rattle.std.specs.Prelude.{◌==◌, flat_map, not, ◌&&◌, ◌||◌, nat_le, nat_lt, max, MatchBool, All}
use Rattle.std.specs.List.{enumerate_from}
use Rattle.std.proofs.lemmas.Bool.Decides.{nat_tests}
use Rattle.std.proofs.lemmas.List.Elements.{All-tail}
use Rattle.members.specs.declared.order.Order.{Order}
use Rattle.members.specs.declared.order.Order.TheVariants.{Arrive, Depart, Route}
use Rattle.settings.specs.declared.fault.RoomFault.{RoomFault}
use Rattle.members.specs.declared.presence.Endpoint.{Endpoint}
use Rattle.members.specs.declared.stays.LegStay.{LegStay}
use Rattle.members.specs.declared.stays.TheConstants.{MAX_STAY}
use Rattle.members.specs.Presence.{is_overdue_at, is_present_at, source_at}
use Rattle.members.specs.Stays.{Told, without_orders, leave, after_overdue, leaving, is_of, ending, ending_of, endings, leg_without, begins_with, beginning, beginnings, started_legs, turn_from, coming_orders, coming_count, coming_legs, come}
use Rattle.members.specs.Room.{RoomState, Step, after_leaving, after_bye, leg_at, is_selected, takes_turn, row_order, switched_leg}
use Rattle.members.specs.Calls.{Call, Hear, Bye, Tick, Select, Receive, Report, MakeBlock, step_of}
use Rattle.members.proofs.StandLemmas.{Stand, StandsIn, Matches, both_present, stand_leaving, equal_of}
use Rattle.core_steps.specs.Hearing.{leg_stay}

-- From this stay of the leg on, the orders end and begin stays of it in turn, up to that one; 0 if none stands. Whatever stay
-- they begin is numbered from the bound on.
abbrev pub Follows : ℕ → ℕ → ℕ → List Order → ℕ → Type 0
Follows n bound now [] stands = now ≡ stands
Follows n bound now (Arrive leg stay ∷ orders) stands =
    (bound ≤ stay) × MatchBool (leg == n) ((now ≡ 0) × (1 ≤ stay) × Follows n bound stay orders stands) (Follows n bound now orders stands)
Follows n bound now (Depart leg stay ∷ orders) stands =
    MatchBool (leg == n) ((now ≡ stay) × (1 ≤ stay) × Follows n bound 0 orders stands) (Follows n bound now orders stands)
Follows n bound now (Route leg stay turn on ∷ orders) stands = Follows n bound now orders stands

pub either_way : (P Q : Type 0) (b t : Bool) → t ≡ b → MatchBool b P Q → MatchBool t P Q
either_way P Q b t e h = subst (λ x. MatchBool x P Q) (sym e) h

pub follows-append : (n bound a b d : ℕ) (xs ys : List Order) → Follows n bound a xs b → Follows n bound b ys d → Follows n bound a (xs ++ ys) d
follows-append n bound a b d [] ys f g = subst (λ x. Follows n bound x ys d) (sym f) g
follows-append n bound a b d (Arrive leg stay ∷ xs) ys f g = (f.0, step (leg == n) f.1 (λ s h. follows-append n bound s b d xs ys h g))
  where
    step : (t : Bool) → MatchBool t ((a ≡ 0) × (1 ≤ stay) × Follows n bound stay xs b) (Follows n bound a xs b)
        → ((s : ℕ) → Follows n bound s xs b → Follows n bound s (xs ++ ys) d)
        → MatchBool t ((a ≡ 0) × (1 ≤ stay) × Follows n bound stay (xs ++ ys) d) (Follows n bound a (xs ++ ys) d)
    step true h more = (h.0, h.1, more stay h.2)
    step false h more = more a h
follows-append n bound a b d (Depart leg stay ∷ xs) ys f g = step (leg == n) f (λ s h. follows-append n bound s b d xs ys h g)
  where
    step : (t : Bool) → MatchBool t ((a ≡ stay) × (1 ≤ stay) × Follows n bound 0 xs b) (Follows n bound a xs b)
        → ((s : ℕ) → Follows n bound s xs b → Follows n bound s (xs ++ ys) d)
        → MatchBool t ((a ≡ stay) × (1 ≤ stay) × Follows n bound 0 (xs ++ ys) d) (Follows n bound a (xs ++ ys) d)
    step true h more = (h.0, h.1, more 0 h.2)
    step false h more = more a h
follows-append n bound a b d (Route leg stay turn on ∷ xs) ys f g = follows-append n bound a b d xs ys f g

unlike : (a b : ℕ) → b < a → (a == b) ≡ false
unlike a b less = grind (arith, nat_tests)

unlike_above : (a b : ℕ) → a < b → (a == b) ≡ false
unlike_above a b less = grind (arith, nat_tests)

itself : (n : ℕ) → (n == n) ≡ true
itself n = grind (arith, nat_tests)

-- ---- an endpoint leaves

other_ending : (n bound a e k : ℕ) (l : LegStay) → (k == n) ≡ false → Follows n bound a (ending_of e (k, l)) a
other_ending n bound a e k l other = step (is_of e l && not (l.stay == 0))
  where
    step : (b : Bool) → Follows n bound a (cond b (ending k l) []) a
    step true = either_way ((a ≡ l.stay) × (1 ≤ l.stay) × (0 ≡ a)) (a ≡ a) false (k == n) other refl
    step false = refl

own_ending : (n bound e : ℕ) (l : LegStay) → Follows n bound l.stay (ending_of e (n, l)) (leg_without e l).stay
own_ending n bound e l = step (is_of e l) (l.stay == 0) refl
  where
    step : (a z : Bool) → (l.stay == 0) ≡ z
        → Follows n bound l.stay (cond (a && not z) (ending n l) []) (cond a (record l { stay = 0 }) l).stay
    step true true none = grind (arith, nat_tests)
    step true false some =
        either_way ((l.stay ≡ l.stay) × (1 ≤ l.stay) × (0 ≡ 0)) (l.stay ≡ 0) true (n == n) (itself n) (refl, grind (arith, nat_tests), refl)
    step false z is = refl

endings_behind : (n bound a e k : ℕ) (ls : List LegStay) → n < k → Follows n bound a (flat_map (ending_of e) (enumerate_from k ls)) a
endings_behind n bound a e k [] less = refl
endings_behind n bound a e k (l ∷ ls) less =
    follows-append n bound a a a (ending_of e (k, l)) (flat_map (ending_of e) (enumerate_from (k + 1) ls))
    (other_ending n bound a e k l (unlike k n less)) (endings_behind n bound a e (k + 1) ls (omega arith))

endings_at : (i k bound e : ℕ) (ls : List LegStay)
    → Follows (k + i) bound (leg_at ls i).stay (flat_map (ending_of e) (enumerate_from k ls)) (leg_at (map (leg_without e) ls) i).stay
endings_at i k bound e [] = refl
endings_at zero k bound e (l ∷ ls) =
    let at : k ≡ k + zero = omega arith in
    subst (λ n. Follows n bound l.stay (flat_map (ending_of e) (enumerate_from k (l ∷ ls))) (leg_without e l).stay) at
    (follows-append k bound l.stay (leg_without e l).stay (leg_without e l).stay (ending_of e (k, l)) (flat_map (ending_of e) (enumerate_from (k + 1) ls))
    (own_ending k bound e l) (endings_behind k bound (leg_without e l).stay e (k + 1) ls (omega arith)))
endings_at (suc i) k bound e (l ∷ ls) =
    let at : (k + 1) + i ≡ k + suc i = omega arith in
    let was : ℕ = (leg_at ls i).stay in
    let now : ℕ = (leg_at (map (leg_without e) ls) i).stay in
    follows-append (k + suc i) bound was was now (ending_of e (k, l)) (flat_map (ending_of e) (enumerate_from (k + 1) ls))
    (other_ending (k + suc i) bound was e k l (unlike_above k (k + suc i) (omega arith)))
    (subst (λ n. Follows n bound was (flat_map (ending_of e) (enumerate_from (k + 1) ls)) now) at (endings_at i (k + 1) bound e ls))

-- what was told of a leg so far, from the stay that it had
abbrev pub Tells : ℕ → ℕ → ℕ → Told → Type 0
Tells n bound was t = Follows n bound was t.orders (leg_at t.legs n).stay

tells_leave : (n bound was : ℕ) (t : Told) (e : ℕ) → Tells n bound was t → Tells n bound was (leave t e)
tells_leave n bound was t e f =
    let at : 0 + n ≡ n = omega arith in
    follows-append n bound was (leg_at t.legs n).stay (leg_at (map (leg_without e) t.legs) n).stay t.orders (endings e t.legs) f
    (subst (λ m. Follows m bound (leg_at t.legs n).stay (endings e t.legs) (leg_at (map (leg_without e) t.legs) n).stay) at (endings_at n 0 bound e t.legs))

tells_if : (n bound was : ℕ) (b : Bool) (t u : Told) → Tells n bound was t → Tells n bound was u → Tells n bound was (cond b t u)
tells_if n bound was true t u f g = f
tells_if n bound was false t u f g = g

tells_left : (n bound was timeout m : ℕ) (t : Told) (k : ℕ) → Tells n bound was t → Tells n bound was (after_overdue timeout m t k)
tells_left n bound was timeout m t zero f = f
tells_left n bound was timeout m t (suc k) f =
    let before = tells_left n bound was timeout m t k f in
    tells_if n bound was (is_overdue_at timeout m (after_overdue timeout m t k).endpoints k) (leave (after_overdue timeout m t k) k) (after_overdue timeout m t k)
    (tells_leave n bound was (after_overdue timeout m t k) k before) before

tells_leaving : (n bound : ℕ) (r : RoomState) (m : ℕ) → Tells n bound (leg_at r.legs n).stay (after_leaving r m)
unfolding leaving
tells_leaving n bound r m = tells_left n bound (leg_at r.legs n).stay r.timeout m (without_orders r.endpoints r.legs) (length r.endpoints) refl

tells_gone : (n bound was : ℕ) (t : Told) (e : ℕ) → Tells n bound was t → Tells n bound was (after_bye t e)
tells_gone n bound was t e f = tells_if n bound was (is_present_at t.endpoints e) (leave t e) t (tells_leave n bound was t e f) f

-- ---- an endpoint comes

-- the stays that are to begin don't stand
abbrev Begins : (LegStay → Bool) → List LegStay → Type 0
Begins begins ls = All (λ l. begins l ≡ true → l.stay ≡ 0) ls

beginnings_behind : (n bound a : ℕ) (begins : LegStay → Bool) (next k : ℕ) (ls : List LegStay) → n < k → bound ≤ next
    → Follows n bound a (beginnings begins next k ls) a
beginnings_behind n bound a begins next k [] less low = refl
beginnings_behind n bound a begins next k (l ∷ ls) less low =
    step (begins l) (beginnings_behind n bound a begins (next + 1) (k + 1) ls (omega arith) (omega arith))
    (beginnings_behind n bound a begins next (k + 1) ls (omega arith) low)
  where
    step : (b : Bool) → Follows n bound a (beginnings begins (next + 1) (k + 1) ls) a → Follows n bound a (beginnings begins next (k + 1) ls) a
        → Follows n bound a (cond b (beginning k next l ++ beginnings begins (next + 1) (k + 1) ls) (beginnings begins next (k + 1) ls)) a
    step true more same = (
      low,
      either_way ((a ≡ 0) × (1 ≤ next) × Follows n bound next (beginnings begins (next + 1) (k + 1) ls) a)
          (Follows n bound a (beginnings begins (next + 1) (k + 1) ls) a) false (k == n) (unlike k n less) more,
    )
    step false more same = same

beginnings_at : (i k bound : ℕ) (begins : LegStay → Bool) (next : ℕ) (ls : List LegStay) → 1 ≤ next → bound ≤ next → Begins begins ls
    → Follows (k + i) bound (leg_at ls i).stay (beginnings begins next k ls) (leg_at (started_legs begins next ls) i).stay
beginnings_at i k bound begins next [] least low fresh = refl
beginnings_at zero k bound begins next (l ∷ ls) least low fresh =
    let at : k ≡ k + zero = omega arith in
    subst (λ n. Follows n bound l.stay (beginnings begins next k (l ∷ ls)) (leg_at (started_legs begins next (l ∷ ls)) zero).stay) at
    (step (begins l) (fresh 0 l (omega arith)))
  where
    step : (b : Bool) → (b ≡ true → l.stay ≡ 0)
        → Follows k bound l.stay (cond b (beginning k next l ++ beginnings begins (next + 1) (k + 1) ls) (beginnings begins next (k + 1) ls))
        (leg_at (cond b (record l { stay = next; turn = turn_from next l } ∷ started_legs begins (next + 1) ls) (l ∷ started_legs begins next ls)) zero).stay
    step true none = (
      low,
      either_way ((l.stay ≡ 0) × (1 ≤ next) × Follows k bound next (beginnings begins (next + 1) (k + 1) ls) next)
          (Follows k bound l.stay (beginnings begins (next + 1) (k + 1) ls) next) true (k == k) (itself k)
          (none refl, least, beginnings_behind k bound next begins (next + 1) (k + 1) ls (omega arith) (omega arith)),
    )
    step false none = beginnings_behind k bound l.stay begins next (k + 1) ls (omega arith) low
beginnings_at (suc i) k bound begins next (l ∷ ls) least low fresh =
    let at : (k + 1) + i ≡ k + suc i = omega arith in
    let rest : Begins begins ls = All-tail (λ l. begins l ≡ true → l.stay ≡ 0) l ls fresh in
    step (begins l)
    (subst (λ n. Follows n bound (leg_at ls i).stay (beginnings begins (next + 1) (k + 1) ls) (leg_at (started_legs begins (next + 1) ls) i).stay) at
    (beginnings_at i (k + 1) bound begins (next + 1) ls (omega arith) (omega arith) rest))
    (subst (λ n. Follows n bound (leg_at ls i).stay (beginnings begins next (k + 1) ls) (leg_at (started_legs begins next ls) i).stay) at
    (beginnings_at i (k + 1) bound begins next ls least low rest))
  where
    was : ℕ
    was = (leg_at ls i).stay

    step : (b : Bool)
        → Follows (k + suc i) bound was (beginnings begins (next + 1) (k + 1) ls) (leg_at (started_legs begins (next + 1) ls) i).stay
        → Follows (k + suc i) bound was (beginnings begins next (k + 1) ls) (leg_at (started_legs begins next ls) i).stay
        → Follows (k + suc i) bound was (cond b (beginning k next l ++ beginnings begins (next + 1) (k + 1) ls) (beginnings begins next (k + 1) ls))
        (leg_at (cond b (record l { stay = next; turn = turn_from next l } ∷ started_legs begins (next + 1) ls) (l ∷ started_legs begins next ls)) (suc i)).stay
    step true more same = (
      low,
      either_way
          ((was ≡ 0) × (1 ≤ next) × Follows (k + suc i) bound next (beginnings begins (next + 1) (k + 1) ls) (leg_at (started_legs begins (next + 1) ls) i).stay)
          (Follows (k + suc i) bound was (beginnings begins (next + 1) (k + 1) ls) (leg_at (started_legs begins (next + 1) ls) i).stay)
          false (k == k + suc i) (unlike_above k (k + suc i) (omega arith)) more,
    )
    step false more same = same

-- if an endpoint is absent none of its stays stands
absent_begins : (es : List Endpoint) (e : ℕ) (l : LegStay) → is_present_at es e ≡ false → Matches es l → begins_with es e l ≡ true → l.stay ≡ 0
absent_begins es e l absent matches begins =
    step (l.subscriber == e) (l.publisher == e) refl refl begins
  where
    none : both_present es l ≡ false → l.stay ≡ 0
    none nobody = let same : not (l.stay == 0) ≡ false = matches ∙ nobody in grind (arith, nat_tests)

    no_subscriber : is_present_at es l.subscriber ≡ false → both_present es l ≡ false
    no_subscriber after_bye = rw after_bye refl

    no_publisher : (b : Bool) → is_present_at es l.publisher ≡ false → (b && is_present_at es l.publisher) ≡ false
    no_publisher true after_bye = after_bye
    no_publisher false after_bye = refl

    step : (a b : Bool) → (l.subscriber == e) ≡ a → (l.publisher == e) ≡ b
        → ((a && is_present_at es l.publisher) || (b && is_present_at es l.subscriber)) ≡ true → l.stay ≡ 0
    step true b is other h = none (no_subscriber (rw (equal_of l.subscriber e is) absent))
    step false true is other h = none (no_publisher (is_present_at es l.subscriber) (rw (equal_of l.publisher e other) absent))
    step false false is other h = absurd (cc)

tells_come : (n was m next : ℕ) (t : Told) (e : ℕ) → 1 ≤ next → is_present_at t.endpoints e ≡ false → Stand t.endpoints t.legs
    → Tells n next was t → Tells n next was (come t m next e)
unfolding coming_orders coming_legs
tells_come n was m next t e least absent stand f =
    let at : 0 + n ≡ n = omega arith in
    let fresh : Begins (begins_with t.endpoints e) t.legs =
    λ k d below. absent_begins t.endpoints e (get_or t.legs k d) absent (stand.matches k d below) in
    follows-append n next was (leg_at t.legs n).stay (leg_at (started_legs (begins_with t.endpoints e) next t.legs) n).stay t.orders
    (beginnings (begins_with t.endpoints e) next 0 t.legs) f
    (subst (λ i. Follows i next (leg_at t.legs n).stay (beginnings (begins_with t.endpoints e) next 0 t.legs)
    (leg_at (started_legs (begins_with t.endpoints e) next t.legs) n).stay) at
    (beginnings_at n 0 next (begins_with t.endpoints e) next t.legs least (omega arith) fresh))

-- ---- a selection

stay-set : (n k : ℕ) (ls : List LegStay) (x : LegStay) → x.stay ≡ (leg_at ls k).stay → (leg_at (set ls k x) n).stay ≡ (leg_at ls n).stay
stay-set n k [] x same = refl
stay-set zero zero (l ∷ ls) x same = same
stay-set (suc n) zero (l ∷ ls) x same = refl
stay-set zero (suc k) (l ∷ ls) x same = refl
stay-set (suc n) (suc k) (l ∷ ls) x same = stay-set n k ls x same

no_row : (n bound a number : ℕ) (l : LegStay) → Follows n bound a (row_order number l) a
no_row n bound a number l = step (l.stay == 0)
  where
    step : (b : Bool) → Follows n bound a (cond b [] (Route number l.stay l.turn l.selected ∷ [])) a
    step true = refl
    step false = refl

tells_switched : (n bound was next : ℕ) (t : Told) (number : ℕ) (on : Bool) → Tells n bound was t
    → Follows n bound was (t.orders ++ row_order number (switched_leg on next (leg_at t.legs number)))
    (leg_at (set t.legs number (switched_leg on next (leg_at t.legs number))) n).stay
tells_switched n bound was next t number on f =
    let x = switched_leg on next (leg_at t.legs number) in
    let same : (leg_at (set t.legs number x) n).stay ≡ (leg_at t.legs n).stay = stay-set n number t.legs x refl in
    subst (λ s. Follows n bound was (t.orders ++ row_order number x) s) (sym same)
    (follows-append n bound was (leg_at t.legs n).stay (leg_at t.legs n).stay t.orders (row_order number x) f
    (no_row n bound (leg_at t.legs n).stay number x))

-- ---- a call

-- what an accepted call says of the leg; and numbers are drawn onward
pub record Passes (n : ℕ) (r : RoomState) (s : Step) : Type 0 where
  pub follows : Follows n r.next (leg_stay r n) s.orders (leg_stay s.room n)
  pub onward : r.next ≤ s.room.next

abbrev pub IfPasses : ℕ → RoomState → Result Step RoomFault → Type 0
IfPasses n r (Ok s) = Passes n r s
IfPasses n r (Err fault) = Unit {0}

if_passes : (n : ℕ) (r : RoomState) (b : Bool) (x y : Result Step RoomFault) → (b ≡ true → IfPasses n r x) → (b ≡ false → IfPasses n r y)
    → IfPasses n r (cond b x y)
if_passes n r true x y yeah nope = yeah refl
if_passes n r false x y yeah nope = nope refl

pub passes : (n : ℕ) (r : RoomState) (c : Call) → StandsIn r → IfPasses n r (step_of r c)
passes n r (Tick handed) s = record { follows = tells_leaving n r.next r (max r.moment handed); onward = omega arith }
passes n r (Bye handed e) s =
    let t = after_leaving r (max r.moment handed) in
    if_passes n r (nat_le (length r.endpoints) e) _ _ (λ _. tt)
    (λ _. record {
      follows = tells_gone n r.next (leg_stay r n) t e (tells_leaving n r.next r (max r.moment handed));
      onward = omega arith;
    })
passes n r (Hear handed e ssrc) s =
    let m = max r.moment handed in
    let t = after_leaving r m in
    let after = tells_leaving n r.next r m in
    let stand = stand_leaving r.timeout m r.endpoints r.legs s.stand in
    if_passes n r (nat_le (length r.endpoints) e) _ _ (λ _. tt)
    (λ _. if_passes n r (not ((source_at r.endpoints e).0 == ssrc)) _ _ (λ _. tt)
    (λ _. if_passes n r (is_present_at t.endpoints e) _ _ (λ _. record { follows = after; onward = omega arith })
    (λ absent. if_passes n r (nat_lt MAX_STAY (r.next + coming_count t.endpoints e t.legs)) _ _ (λ _. tt)
    (λ _. record {
      follows = tells_come n (leg_stay r n) m r.next t e s.numbered absent stand after;
      onward = omega arith;
    }))))
passes n r (Select handed number on) s =
    let m = max r.moment handed in
    let t = after_leaving r m in
    let after = tells_leaving n r.next r m in
    if_passes n r (nat_le (length r.legs) number) _ _ (λ _. tt)
    (λ _. if_passes n r (is_selected on (leg_at t.legs number)) _ _ (λ _. record { follows = after; onward = omega arith })
    (λ _. if_passes n r (takes_turn on (leg_at t.legs number) && nat_le MAX_STAY r.next) _ _ (λ _. tt)
    (λ _. record {
      follows = tells_switched n r.next (leg_stay r n) r.next t number on after;
      onward = later (takes_turn on (leg_at t.legs number)) r.next;
    })))
  where
    later : (b : Bool) (k : ℕ) → k ≤ cond b (k + 1) k
    later true k = omega arith
    later false k = omega arith
passes n r (Receive e seq timestamp) s = record { follows = refl; onward = omega arith }
passes n r (Report e ntp rtp) s = record { follows = refl; onward = omega arith }
passes n r (MakeBlock e) s = record { follows = refl; onward = omega arith }
