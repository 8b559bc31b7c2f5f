-- Which stays stand.
use Rattle.std.proofs.Common.{◌≡◌, ℕ, zero, suc, ◌+◌, ◌<◌, ◌≤◌, List, [], ◌∷◌, length, get_or, set, map, refl, sym, ◌∙◌, arith, Ok, Err, Result, Some, None, Bool, true, false, cond}
use Rattle.std.specs.Prelude.{◌==◌, ◌≢◌, not, ◌&&◌, ◌||◌, nat_le, nat_lt, max, All}
use Rattle.std.proofs.lemmas.Bool.Decides.{nat_tests}
use Rattle.std.proofs.lemmas.List.{length-map}
use Rattle.std.proofs.lemmas.List.Elements.{All-nil, All-cons, All-tail, All-map, All-set, All-weaker}
use Rattle.settings.specs.declared.fault.RoomFault.{RoomFault}
use Rattle.members.specs.declared.presence.Endpoint.{Endpoint}
use Rattle.members.specs.declared.stays.LegStay.{LegStay}
use Rattle.members.specs.declared.stays.TheConstants.{MAX_STAY}
use Rattle.members.specs.Presence.{is_overdue_at, is_present_at, source_at, with_heard}
use Rattle.members.specs.Stays.{Told, without_orders, leave, after_overdue, leaving, is_of, leg_without, begins_with, started_legs, turn_from, coming_count, coming_legs}
use Rattle.settings.specs.declared.settings.LegSettings.{LegSettings}
use Rattle.tmmbr_tuple.specs.declared.ssrc.Ssrc.{Ssrc}
use Rattle.settings.specs.Settings.{Configuration}
use Rattle.members.specs.Room.{RoomState, Step, after_leaving, after_bye, leg_at, no_leg, is_selected, takes_turn, switched_leg, absent, idle_leg, new_room}
use Rattle.members.specs.Calls.{Call, Hear, Bye, Tick, Select, Receive, Report, MakeBlock, step_of, room_of, room_after}
use Rattle.members.proofs.CallLemmas.{leaving_count}

-- what a stay stands by
abbrev pub both_present : List Endpoint → LegStay → Bool
both_present es l = is_present_at es l.subscriber && is_present_at es l.publisher

abbrev pub Matches : List Endpoint → LegStay → Type 0
Matches es l = not (l.stay == 0) ≡ both_present es l

-- an endpoint is marked as absent, or as heard
pub absent_now : (es : List Endpoint) (k : ℕ) (e : Endpoint) → e.heard ≡ None → is_present_at (set es k e) k ≡ false
unfolding is_present_at
absent_now [] k e none = refl
absent_now (x ∷ es) zero e none = rw none refl
absent_now (x ∷ es) (suc k) e none = absent_now es k e none

pub present_now : (es : List Endpoint) (k m : ℕ) (e : Endpoint) → k < length es → e.heard ≡ Some m → is_present_at (set es k e) k ≡ true
unfolding is_present_at
present_now [] k m e below some = absurd (omega arith)
present_now (x ∷ es) zero m e below some = rw some refl
present_now (x ∷ es) (suc k) m e below some = present_now es k m e (omega arith) some

pub other_now : (es : List Endpoint) (k j : ℕ) (e : Endpoint) → (k == j) ≡ false → is_present_at (set es k e) j ≡ is_present_at es j
unfolding is_present_at
other_now [] k j e other = refl
other_now (x ∷ es) zero zero e other = absurd (cc)
other_now (x ∷ es) zero (suc j) e other = refl
other_now (x ∷ es) (suc k) zero e other = refl
other_now (x ∷ es) (suc k) (suc j) e other = other_now es k j e (grind (arith, nat_tests))

pub same_test : (a b : ℕ) → (a == b) ≡ (b == a)
same_test a b = grind (arith, nat_tests)

pub equal_of : (a b : ℕ) → (a == b) ≡ true → a ≡ b
equal_of a b is = grind (arith, nat_tests)

and_false : (p : Bool) → (p && false) ≡ false
and_false true = refl
and_false false = refl

and_true : (p : Bool) → (p && true) ≡ p
and_true true = refl
and_true false = refl

-- the endpoint leaves
matches_left : (es : List Endpoint) (k : ℕ) (l : LegStay) → Matches es l → Matches (with_heard es k None) (leg_without k l)
matches_left es k l m = step (l.subscriber == k) (l.publisher == k) refl refl
  where
    step : (a b : Bool) → (l.subscriber == k) ≡ a → (l.publisher == k) ≡ b
        → not ((cond (a || b) (record l { stay = 0 }) l).stay == 0) ≡ both_present (with_heard es k None) (cond (a || b) (record l { stay = 0 }) l)
    step true b is other =
        let after_bye : is_present_at (with_heard es k None) l.subscriber ≡ false = rw (equal_of l.subscriber k is) (absent_now es k _ refl) in
        rw after_bye refl
    step false true is other =
        let after_bye : is_present_at (with_heard es k None) l.publisher ≡ false = rw (equal_of l.publisher k other) (absent_now es k _ refl) in
        rw after_bye (sym (and_false (is_present_at (with_heard es k None) l.subscriber)))
    step false false is other =
        rw (other_now es k l.subscriber _ (same_test k l.subscriber ∙ is), other_now es k l.publisher _ (same_test k l.publisher ∙ other)) m

abbrev pub Differs : LegStay → Type 0
Differs l = l.subscriber ≢ l.publisher

-- a table whose stays stand exactly while both endpoints are present
pub record Stand (es : List Endpoint) (ls : List LegStay) : Type 0 where
  pub matches : All (Matches es) ls
  pub differ : All Differs ls

ended_matches : (es : List Endpoint) (k : ℕ) (ls : List LegStay) → All (Matches es) ls → All (Matches (with_heard es k None)) (map (leg_without k) ls)
ended_matches es k [] all = All-nil (Matches (with_heard es k None))
ended_matches es k (l ∷ ls) all =
    All-cons (Matches (with_heard es k None)) (leg_without k l) (map (leg_without k) ls) (matches_left es k l (all 0 l (omega arith)))
    (ended_matches es k ls (All-tail (Matches es) l ls all))

ended_differs : (k : ℕ) (l : LegStay) → Differs l → Differs (leg_without k l)
ended_differs k l d = step (is_of k l)
  where
    step : (b : Bool) → Differs (cond b (record l { stay = 0 }) l)
    step true = d
    step false = d

ended_differ : (k : ℕ) (ls : List LegStay) → All Differs ls → All Differs (map (leg_without k) ls)
ended_differ k [] all = All-nil Differs
ended_differ k (l ∷ ls) all =
    All-cons Differs (leg_without k l) (map (leg_without k) ls) (ended_differs k l (all 0 l (omega arith))) (ended_differ k ls (All-tail Differs l ls all))

stand_leave : (t : Told) (k : ℕ) → Stand t.endpoints t.legs → Stand (leave t k).endpoints (leave t k).legs
stand_leave t k s = record { matches = ended_matches t.endpoints k t.legs s.matches; differ = ended_differ k t.legs s.differ }

stand_left : (timeout m : ℕ) (t : Told) (n : ℕ) → Stand t.endpoints t.legs → Stand (after_overdue timeout m t n).endpoints (after_overdue timeout m t n).legs
stand_left timeout m t zero s = s
stand_left timeout m t (suc n) s = step (is_overdue_at timeout m (after_overdue timeout m t n).endpoints n) (stand_left timeout m t n s)
  where
    step : (b : Bool) → Stand (after_overdue timeout m t n).endpoints (after_overdue timeout m t n).legs
        → Stand (cond b (leave (after_overdue timeout m t n) n) (after_overdue timeout m t n)).endpoints (cond b (leave (after_overdue timeout m t n) n) (after_overdue timeout m t n)).legs
    step true h = stand_leave (after_overdue timeout m t n) n h
    step false h = h

pub stand_leaving : (timeout m : ℕ) (es : List Endpoint) (ls : List LegStay) → Stand es ls
    → Stand (leaving timeout m es ls).endpoints (leaving timeout m es ls).legs
unfolding leaving
stand_leaving timeout m es ls s = stand_left timeout m (without_orders es ls) (length es) s

-- the endpoint comes
or_false : (p : Bool) → (p || false) ≡ p
or_false true = refl
or_false false = refl

matches_come : (es : List Endpoint) (e m n : ℕ) (l : LegStay) → e < length es → is_present_at es e ≡ false → 1 ≤ n → Differs l → Matches es l
    → Matches (with_heard es e (Some m)) (cond (begins_with es e l) (record l { stay = n; turn = turn_from n l }) l)
matches_come es e m n l inside absent least differs was = step (l.subscriber == e) (l.publisher == e) refl refl
  where
    stays : not (n == 0) ≡ true
    stays = grind (arith, nat_tests)

    here : is_present_at (with_heard es e (Some m)) e ≡ true
    here = present_now es e m _ inside refl

    one : (p ps : Bool) → is_present_at (with_heard es e (Some m)) l.subscriber ≡ ps → is_present_at (with_heard es e (Some m)) l.publisher ≡ p
        → (b : Bool) → b ≡ (ps && p) → (b ≡ false → not (l.stay == 0) ≡ false)
        → not ((cond b (record l { stay = n; turn = turn_from n l }) l).stay == 0)
        ≡ both_present (with_heard es e (Some m)) (cond b (record l { stay = n; turn = turn_from n l }) l)
    one p ps subscribes publishes true is none = rw (subscribes, publishes) (stays ∙ is)
    one p ps subscribes publishes false is none = rw (subscribes, publishes) (none refl ∙ is)

    step : (a b : Bool) → (l.subscriber == e) ≡ a → (l.publisher == e) ≡ b
        → not ((cond ((a && is_present_at es l.publisher) || (b && is_present_at es l.subscriber)) (record l { stay = n; turn = turn_from n l }) l).stay == 0)
        ≡ both_present (with_heard es e (Some m))
        (cond ((a && is_present_at es l.publisher) || (b && is_present_at es l.subscriber)) (record l { stay = n; turn = turn_from n l }) l)
    step true true is other = absurd (differs (equal_of l.subscriber e is ∙ sym (equal_of l.publisher e other)))
    step true false is other =
        one (is_present_at es l.publisher) true (rw (equal_of l.subscriber e is) here) (other_now es e l.publisher _ (same_test e l.publisher ∙ other))
        (is_present_at es l.publisher || false) (or_false (is_present_at es l.publisher))
        (λ none. was ∙ rw (equal_of l.subscriber e is, absent) refl)
    step false true is other =
        one true (is_present_at es l.subscriber) (other_now es e l.subscriber _ (same_test e l.subscriber ∙ is)) (rw (equal_of l.publisher e other) here)
        (is_present_at es l.subscriber) (sym (and_true (is_present_at es l.subscriber)))
        (λ none. was ∙ rw (equal_of l.publisher e other, absent) (and_false (is_present_at es l.subscriber)))
    step false false is other =
        rw (other_now es e l.subscriber _ (same_test e l.subscriber ∙ is), other_now es e l.publisher _ (same_test e l.publisher ∙ other)) was

begun_matches : (es : List Endpoint) (e m n : ℕ) (ls : List LegStay) → e < length es → is_present_at es e ≡ false → 1 ≤ n → Stand es ls
    → All (Matches (with_heard es e (Some m))) (started_legs (begins_with es e) n ls)
begun_matches es e m n [] inside absent least s = All-nil (Matches (with_heard es e (Some m)))
begun_matches es e m n (l ∷ ls) inside absent least s =
    let rest : Stand es ls = record { matches = All-tail (Matches es) l ls s.matches; differ = All-tail Differs l ls s.differ } in
    step (begins_with es e l)
    (matches_come es e m n l inside absent least (s.differ 0 l (omega arith)) (s.matches 0 l (omega arith)))
    (begun_matches es e m (n + 1) ls inside absent (omega arith) rest)
    (begun_matches es e m n ls inside absent least rest)
  where
    step : (b : Bool) → Matches (with_heard es e (Some m)) (cond b (record l { stay = n; turn = turn_from n l }) l)
        → All (Matches (with_heard es e (Some m))) (started_legs (begins_with es e) (n + 1) ls)
        → All (Matches (with_heard es e (Some m))) (started_legs (begins_with es e) n ls)
        → All (Matches (with_heard es e (Some m)))
        (cond b (record l { stay = n; turn = turn_from n l } ∷ started_legs (begins_with es e) (n + 1) ls) (l ∷ started_legs (begins_with es e) n ls))
    step true first more same =
        All-cons (Matches (with_heard es e (Some m))) (record l { stay = n; turn = turn_from n l }) (started_legs (begins_with es e) (n + 1) ls) first more
    step false first more same = All-cons (Matches (with_heard es e (Some m))) l (started_legs (begins_with es e) n ls) first same

begun_differ : (begins : LegStay → Bool) (n : ℕ) (ls : List LegStay) → All Differs ls → All Differs (started_legs begins n ls)
begun_differ begins n [] all = All-nil Differs
begun_differ begins n (l ∷ ls) all =
    step (begins l) (begun_differ begins (n + 1) ls (All-tail Differs l ls all)) (begun_differ begins n ls (All-tail Differs l ls all))
  where
    first : Differs l
    first = all 0 l (omega arith)

    step : (b : Bool) → All Differs (started_legs begins (n + 1) ls) → All Differs (started_legs begins n ls)
        → All Differs (cond b (record l { stay = n; turn = turn_from n l } ∷ started_legs begins (n + 1) ls) (l ∷ started_legs begins n ls))
    step true more same = All-cons Differs (record l { stay = n; turn = turn_from n l }) (started_legs begins (n + 1) ls) first more
    step false more same = All-cons Differs l (started_legs begins n ls) first same

-- ---- one call

left_legs : (timeout m : ℕ) (t : Told) (n : ℕ) → length (after_overdue timeout m t n).legs ≡ length t.legs
left_legs timeout m t zero = refl
left_legs timeout m t (suc n) = step (is_overdue_at timeout m (after_overdue timeout m t n).endpoints n) (left_legs timeout m t n)
  where
    step : (b : Bool) → length (after_overdue timeout m t n).legs ≡ length t.legs
        → length (cond b (leave (after_overdue timeout m t n) n) (after_overdue timeout m t n)).legs ≡ length t.legs
    step true same = length-map (after_overdue timeout m t n).legs (leg_without n) ∙ same
    step false same = same

leaving_legs : (r : RoomState) (m : ℕ) → length (after_leaving r m).legs ≡ length r.legs
unfolding leaving
leaving_legs r m = left_legs r.timeout m (without_orders r.endpoints r.legs) (length r.endpoints)

pub record StandsIn (r : RoomState) : Type 0 where
  pub stand : Stand r.endpoints r.legs
  pub numbered : 1 ≤ r.next

abbrev pub IfStands : Result Step RoomFault → Type 0
IfStands (Ok s) = StandsIn s.room
IfStands (Err fault) = Unit {0}

if_stands : (b : Bool) (x y : Result Step RoomFault) → (b ≡ true → IfStands x) → (b ≡ false → IfStands y) → IfStands (cond b x y)
if_stands true x y yeah nope = yeah refl
if_stands false x y yeah nope = nope refl

-- a present endpoint is heard again: it stays present
again_matches : (es : List Endpoint) (e m : ℕ) (l : LegStay) → is_present_at es e ≡ true → e < length es → Matches es l
    → Matches (with_heard es e (Some m)) l
again_matches es e m l present inside was = was ∙ rw (same l.subscriber, same l.publisher) refl
  where
    same : (j : ℕ) → is_present_at (with_heard es e (Some m)) j ≡ is_present_at es j
    same j = step (e == j) refl
      where
        step : (b : Bool) → (e == j) ≡ b → is_present_at (with_heard es e (Some m)) j ≡ is_present_at es j
        step true equal = rw (equal_of j e (same_test j e ∙ equal)) (present_now es e m _ inside refl ∙ sym present)
        step false apart = other_now es e j _ apart

stands_again : (t : Told) (e m : ℕ) → is_present_at t.endpoints e ≡ true → e < length t.endpoints → Stand t.endpoints t.legs
    → Stand (with_heard t.endpoints e (Some m)) t.legs
stands_again t e m present inside s = record {
  matches = All-weaker (Matches t.endpoints) (Matches (with_heard t.endpoints e (Some m)))
      (λ l was. again_matches t.endpoints e m l present inside was) t.legs s.matches;
  differ = s.differ;
}

stands_come : (t : Told) (e m n : ℕ) → is_present_at t.endpoints e ≡ false → e < length t.endpoints → 1 ≤ n → Stand t.endpoints t.legs
    → Stand (with_heard t.endpoints e (Some m)) (coming_legs t.endpoints e n t.legs)
unfolding coming_legs
stands_come t e m n absent inside least s = record {
  matches = begun_matches t.endpoints e m n t.legs inside absent least s;
  differ = begun_differ (begins_with t.endpoints e) n t.legs s.differ;
}

stands_gone : (t : Told) (e : ℕ) → Stand t.endpoints t.legs → Stand (after_bye t e).endpoints (after_bye t e).legs
stands_gone t e s = step (is_present_at t.endpoints e)
  where
    step : (b : Bool) → Stand (cond b (leave t e) t).endpoints (cond b (leave t e) t).legs
    step true = stand_leave t e s
    step false = s

stands_switched : (es : List Endpoint) (ls : List LegStay) (number next : ℕ) (on : Bool) → number < length ls → Stand es ls
    → Stand es (set ls number (switched_leg on next (leg_at ls number)))
stands_switched es ls number next on inside s = record {
  matches = All-set (Matches es) ls number (switched_leg on next (leg_at ls number)) (s.matches number no_leg inside) s.matches;
  differ = All-set Differs ls number (switched_leg on next (leg_at ls number)) (s.differ number no_leg inside) s.differ;
}

pub stands : (r : RoomState) (c : Call) → StandsIn r → IfStands (step_of r c)
stands r (Tick handed) s = record {
  stand = stand_leaving r.timeout (max r.moment handed) r.endpoints r.legs s.stand;
  numbered = s.numbered;
}
stands r (Bye handed e) s =
    let t = after_leaving r (max r.moment handed) in
    if_stands (nat_le (length r.endpoints) e) _ _ (λ _. tt)
    (λ _. record {
      stand = stands_gone t e (stand_leaving r.timeout (max r.moment handed) r.endpoints r.legs s.stand);
      numbered = s.numbered;
    })
stands r (Hear handed e ssrc) s =
    let m = max r.moment handed in
    let t = after_leaving r m in
    let after = stand_leaving r.timeout m r.endpoints r.legs s.stand in
    let n = coming_count t.endpoints e t.legs in
    if_stands (nat_le (length r.endpoints) e) _ _ (λ _. tt)
    (λ known. let below : e < length r.endpoints = grind (arith, nat_tests) in
    let inside : e < length t.endpoints = omega (arith, leaving_count r m) in
    if_stands (not ((source_at r.endpoints e).0 == ssrc)) _ _ (λ _. tt)
    (λ _. if_stands (is_present_at t.endpoints e) _ _
    (λ present. record { stand = stands_again t e m present inside after; numbered = s.numbered })
    (λ absent. if_stands (nat_lt MAX_STAY (r.next + n)) _ _ (λ _. tt)
    (λ _. record { stand = stands_come t e m r.next absent inside s.numbered after; numbered = omega (arith, s.numbered) }))))
stands r (Select handed number on) s =
    let m = max r.moment handed in
    let t = after_leaving r m in
    let l = leg_at t.legs number in
    let after = stand_leaving r.timeout m r.endpoints r.legs s.stand in
    if_stands (nat_le (length r.legs) number) _ _ (λ _. tt)
    (λ known. let below : number < length r.legs = grind (arith, nat_tests) in
    let inside : number < length t.legs = omega (arith, leaving_legs r m) in
    if_stands (is_selected on l) _ _ (λ _. record { stand = after; numbered = s.numbered })
    (λ _. if_stands (takes_turn on l && nat_le MAX_STAY r.next) _ _ (λ _. tt)
    (λ _. record {
      stand = stands_switched t.endpoints t.legs number r.next on inside after;
      numbered = later (takes_turn on l) r.next s.numbered;
    })))
  where
    later : (b : Bool) (n : ℕ) → 1 ≤ n → 1 ≤ cond b (n + 1) n
    later true n least = omega arith
    later false n least = least
stands r (Receive e seq timestamp) s = record { stand = s.stand; numbered = s.numbered }
stands r (Report e ntp rtp) s = record { stand = s.stand; numbered = s.numbered }
stands r (MakeBlock e) s = record { stand = s.stand; numbered = s.numbered }

-- ---- every list of calls

stands_after : (r : RoomState) (calls : List Call) → StandsIn r → StandsIn (room_after r calls)
stands_after r [] s = s
stands_after r (c ∷ calls) s = step (step_of r c) (stands r c s) (λ r' s'. stands_after r' calls s')
  where
    step : (x : Result Step RoomFault) → IfStands x → ((r' : RoomState) → StandsIn r' → StandsIn (room_after r' calls))
        → StandsIn (room_after (room_of r x) calls)
    step (Ok st) after rest = rest st.room after
    step (Err fault) after rest = rest r s

nobody_present : (ssrcs : List Ssrc) (e : ℕ) → is_present_at (map absent ssrcs) e ≡ false
unfolding is_present_at
nobody_present [] e = refl
nobody_present (s ∷ ssrcs) zero = refl
nobody_present (s ∷ ssrcs) (suc e) = nobody_present ssrcs e

unstarted_stand : (ssrcs : List Ssrc) (legs : List LegSettings) → All (λ l. l.subscriber ≢ l.publisher) legs
    → Stand (map absent ssrcs) (map idle_leg legs)
unstarted_stand ssrcs legs differ = record {
  matches = All-map (Matches (map absent ssrcs)) idle_leg legs (λ k d below. rw (nobody_present ssrcs (get_or legs k d).subscriber) refl);
  differ = All-map Differs idle_leg legs differ;
}

pub stands_new : (s : Configuration) → All (λ l. l.subscriber ≢ l.publisher) s.legs → StandsIn (new_room s)
stands_new s differ = record { stand = unstarted_stand s.endpoints s.legs differ; numbered = omega arith }

pub stand_law : (s : Configuration) (calls : List Call) → All (λ l. l.subscriber ≢ l.publisher) s.legs
    → Stand (room_after (new_room s) calls).endpoints (room_after (new_room s) calls).legs
stand_law s calls differ =
    (stands_after (new_room s) calls (stands_new s differ)).stand
