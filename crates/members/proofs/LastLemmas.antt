-- How long a stay's number lasts.
use Rattle.std.proofs.Common.{◌≡◌, ℕ, zero, suc, ◌+◌, ◌<◌, ◌≤◌, List, [], ◌∷◌, ◌++◌, length, get_or, set, map, refl, sym, ap, subst, ◌∙◌, arith, None, Ok, Err, Result, Bool, true, false, cond, inl, inr}
use Rattle.std.specs.Prelude.{◌==◌, ◌≢◌, ◌↔◌, not, Option, ◌&&◌, ◌||◌, nat_le, nat_lt, max, All}
use Rattle.std.proofs.lemmas.Bool.Decides.{nat_tests}
use Rattle.std.proofs.lemmas.Bool.{cases_lt}
use Rattle.std.proofs.lemmas.List.{length-map, length-set, get_or-map}
use Rattle.std.proofs.lemmas.List.Elements.{All-tail}
use Rattle.settings.specs.declared.fault.RoomFault.{RoomFault}
use Rattle.members.specs.declared.presence.Endpoint.{Endpoint}
use Rattle.members.specs.declared.stays.LegStay.{LegStay}
use Rattle.members.specs.declared.stays.TheConstants.{MAX_STAY}
use Rattle.settings.specs.declared.settings.LegSettings.{LegSettings}
use Rattle.members.specs.Presence.{is_overdue_at, is_present_at, source_at}
use Rattle.settings.specs.Settings.{Configuration, IsInRange, IsLegAmong}
use Rattle.members.specs.Stays.{Told, without_orders, leave, after_overdue, leaving, is_of, leg_without, begins_with, started_legs, turn_from, coming_count, coming_legs}
use Rattle.members.specs.Room.{RoomState, Step, after_leaving, after_bye, leg_at, no_leg, is_selected, takes_turn, switched_leg, idle_leg, new_room}
use Rattle.members.specs.Calls.{Call, Hear, Bye, Tick, Select, Receive, Report, MakeBlock, step_of, room_of, if_accepted, room_after, orders_after, accepted_calls, moment_of, heard_by, is_recent, is_present_after, comes_by, comings_from, stay_after, IsOnePresence}
use Rattle.members.proofs.CallLemmas.{IfKeeps, Keeps, keeps, Before, before_new, presence_law}
use Rattle.members.proofs.StandLemmas.{Matches, both_present, Stand, StandsIn, IfStands, stands, stands_new, stand_law, stand_leaving, equal_of, same_test}
use Rattle.members.proofs.ReceivedLemmas.{present_recent}
use Rattle.members.proofs.EndedLemmas.{once_below, once_after, once_new, later}

-- ---- a stay ends, or goes on

-- The legs are the ones that they were, but that the stay of the one of this number may have ended.
record Fades (k : ℕ) (ls ms : List LegStay) : Type 0 where
  count : length ms ≡ length ls
  subscriber : (leg_at ms k).subscriber ≡ (leg_at ls k).subscriber
  publisher : (leg_at ms k).publisher ≡ (leg_at ls k).publisher
  stay : (leg_at ms k).stay ≢ 0 → (leg_at ms k).stay ≡ (leg_at ls k).stay

fades_same : (k : ℕ) (ls : List LegStay) → Fades k ls ls
fades_same k ls = record { count = refl; subscriber = refl; publisher = refl; stay = λ some. refl }

fades_then : (k : ℕ) (ls ms os : List LegStay) → Fades k ls ms → Fades k ms os → Fades k ls os
fades_then k ls ms os first second = record {
  count = second.count ∙ first.count;
  subscriber = second.subscriber ∙ first.subscriber;
  publisher = second.publisher ∙ first.publisher;
  stay = λ some. let same = second.stay some in same ∙ first.stay (λ none. some (same ∙ none));
}

fades_if : (k : ℕ) (b : Bool) (ls : List LegStay) (t u : Told) → Fades k ls t.legs → Fades k ls u.legs → Fades k ls (cond b t u).legs
fades_if k true ls t u first second = first
fades_if k false ls t u first second = second

fades_ended : (e k : ℕ) (ls : List LegStay) → Fades k ls (map (leg_without e) ls)
fades_ended e k [] = fades_same k []
fades_ended e zero (l ∷ ls) = step (is_of e l)
  where
    step : (b : Bool) → Fades zero (l ∷ ls) (cond b (record l { stay = 0 }) l ∷ map (leg_without e) ls)
    step true = record { count = ap suc (length-map ls (leg_without e)); subscriber = refl; publisher = refl; stay = λ some. absurd (some refl) }
    step false = record { count = ap suc (length-map ls (leg_without e)); subscriber = refl; publisher = refl; stay = λ some. refl }
fades_ended e (suc k) (l ∷ ls) =
    let rest = fades_ended e k ls in
    record { count = ap suc rest.count; subscriber = rest.subscriber; publisher = rest.publisher; stay = rest.stay }

fades_left : (k timeout m : ℕ) (t : Told) (n : ℕ) → Fades k t.legs (after_overdue timeout m t n).legs
fades_left k timeout m t zero = fades_same k t.legs
fades_left k timeout m t (suc n) =
    let before = fades_left k timeout m t n in
    fades_if k (is_overdue_at timeout m (after_overdue timeout m t n).endpoints n) t.legs (leave (after_overdue timeout m t n) n) (after_overdue timeout m t n)
    (fades_then k t.legs (after_overdue timeout m t n).legs (map (leg_without n) (after_overdue timeout m t n).legs) before (fades_ended n k (after_overdue timeout m t n).legs))
    before

fades_leaving : (k : ℕ) (r : RoomState) (m : ℕ) → Fades k r.legs (after_leaving r m).legs
unfolding leaving
fades_leaving k r m = fades_left k r.timeout m (without_orders r.endpoints r.legs) (length r.endpoints)

fades_gone : (k : ℕ) (t : Told) (e : ℕ) → Fades k t.legs (after_bye t e).legs
fades_gone k t e = fades_if k (is_present_at t.endpoints e) t.legs (leave t e) t (fades_ended e k t.legs) (fades_same k t.legs)

-- another selection leaves each stay
fades_switched : (k : ℕ) (ls : List LegStay) (n next : ℕ) (on : Bool) → Fades k ls (set ls n (switched_leg on next (leg_at ls n)))
fades_switched k [] n next on = fades_same k []
fades_switched zero (l ∷ ls) zero next on = record { count = refl; subscriber = refl; publisher = refl; stay = λ some. refl }
fades_switched zero (l ∷ ls) (suc n) next on =
    record { count = ap suc (length-set ls n (switched_leg on next (leg_at ls n))); subscriber = refl; publisher = refl; stay = λ some. refl }
fades_switched (suc k) (l ∷ ls) zero next on = record { count = refl; subscriber = refl; publisher = refl; stay = λ some. refl }
fades_switched (suc k) (l ∷ ls) (suc n) next on =
    let rest = fades_switched k ls n next on in
    record { count = ap suc rest.count; subscriber = rest.subscriber; publisher = rest.publisher; stay = rest.stay }

-- ---- stays begin

-- what becomes of the leg of this number if stays are numbered from the next
record Starts (k next : ℕ) (begins : LegStay → Bool) (ls ms : List LegStay) : Type 0 where
  count : length ms ≡ length ls
  subscriber : (leg_at ms k).subscriber ≡ (leg_at ls k).subscriber
  publisher : (leg_at ms k).publisher ≡ (leg_at ls k).publisher
  anew : begins (leg_at ls k) ≡ true → (leg_at ms k).stay ≢ 0 → next ≤ (leg_at ms k).stay
  kept : begins (leg_at ls k) ≡ false → (leg_at ms k).stay ≡ (leg_at ls k).stay

starts_begun : (k : ℕ) (begins : LegStay → Bool) (next : ℕ) (ls : List LegStay) → Starts k next begins ls (started_legs begins next ls)
starts_begun k begins next [] = record { count = refl; subscriber = refl; publisher = refl; anew = λ is some. absurd (some refl); kept = λ is. refl }
starts_begun zero begins next (l ∷ ls) = step (begins l) refl (starts_begun 0 begins (next + 1) ls) (starts_begun 0 begins next ls)
  where
    step : (b : Bool) → begins l ≡ b → Starts 0 (next + 1) begins ls (started_legs begins (next + 1) ls) → Starts 0 next begins ls (started_legs begins next ls)
        → Starts 0 next begins (l ∷ ls) (cond b (record l { stay = next; turn = turn_from next l } ∷ started_legs begins (next + 1) ls) (l ∷ started_legs begins next ls))
    step true is more same = record {
      count = ap suc more.count;
      subscriber = refl;
      publisher = refl;
      anew = λ _ some. omega arith;
      kept = λ none. absurd (cc);
    }
    step false is more same = record {
      count = ap suc same.count;
      subscriber = refl;
      publisher = refl;
      anew = λ some _. absurd (cc);
      kept = λ _. refl;
    }
starts_begun (suc k) begins next (l ∷ ls) = step (begins l) (starts_begun k begins (next + 1) ls) (starts_begun k begins next ls)
  where
    step : (b : Bool) → Starts k (next + 1) begins ls (started_legs begins (next + 1) ls) → Starts k next begins ls (started_legs begins next ls)
        → Starts (suc k) next begins (l ∷ ls) (cond b (record l { stay = next; turn = turn_from next l } ∷ started_legs begins (next + 1) ls) (l ∷ started_legs begins next ls))
    step true more same = record {
      count = ap suc more.count;
      subscriber = more.subscriber;
      publisher = more.publisher;
      anew = λ is some. omega (arith, more.anew is some);
      kept = more.kept;
    }
    step false more same = record {
      count = ap suc same.count;
      subscriber = same.subscriber;
      publisher = same.publisher;
      anew = same.anew;
      kept = same.kept;
    }

starts_coming : (k : ℕ) (es : List Endpoint) (e next : ℕ) (ls : List LegStay) → Starts k next (begins_with es e) ls (coming_legs es e next ls)
unfolding coming_legs
starts_coming k es e next ls = starts_begun k (begins_with es e) next ls

-- ---- stays and presence

none_absent : (es : List Endpoint) (ls : List LegStay) (k : ℕ) → All (Matches es) ls → both_present es (leg_at ls k) ≡ false → (leg_at ls k).stay ≡ 0
none_absent es [] k all absent = refl
none_absent es (l ∷ ls) zero all absent = zero_of l.stay (all 0 l (omega arith) ∙ absent)
  where
    zero_of : (n : ℕ) → not (n == 0) ≡ false → n ≡ 0
    zero_of n is = grind (arith, nat_tests)
none_absent es (l ∷ ls) (suc k) all absent = none_absent es ls k (All-tail (Matches es) l ls all) absent

both_of : (es : List Endpoint) (ls : List LegStay) (k : ℕ) → All (Matches es) ls → (leg_at ls k).stay ≢ 0 → both_present es (leg_at ls k) ≡ true
both_of es [] k all some = absurd (some refl)
both_of es (l ∷ ls) zero all some = sym (all 0 l (omega arith)) ∙ not_zero l.stay some
  where
    not_zero : (n : ℕ) → n ≢ 0 → not (n == 0) ≡ true
    not_zero n some = grind (arith, nat_tests)
both_of es (l ∷ ls) (suc k) all some = both_of es ls k (All-tail (Matches es) l ls all) some

some_of : (es : List Endpoint) (ls : List LegStay) (k : ℕ) → k < length ls → All (Matches es) ls → both_present es (leg_at ls k) ≡ true → (leg_at ls k).stay ≢ 0
some_of es ls k below all present = not_zero (leg_at ls k).stay (all k no_leg below ∙ present)
  where
    not_zero : (n : ℕ) → not (n == 0) ≡ true → n ≢ 0
    not_zero n is none = absurd (grind (arith, nat_tests))

-- ---- one call

-- what a call makes of the leg of this number, by which one of its ends may have come
record Moves (k next next' : ℕ) (comes : Bool) (ls ms : List LegStay) : Type 0 where
  later : next ≤ next'
  count : length ms ≡ length ls
  subscriber : (leg_at ms k).subscriber ≡ (leg_at ls k).subscriber
  publisher : (leg_at ms k).publisher ≡ (leg_at ls k).publisher
  kept : comes ≡ false → (leg_at ms k).stay ≢ 0 → (leg_at ms k).stay ≡ (leg_at ls k).stay
  anew : comes ≡ true → (leg_at ms k).stay ≢ 0 → next ≤ (leg_at ms k).stay

abbrev IfMoves : ℕ → RoomState → Bool → Result Step RoomFault → Type 0
IfMoves k r comes (Ok s) = Moves k r.next s.room.next comes r.legs s.room.legs
IfMoves k r comes (Err fault) = Unit {0}

if_moves : (k : ℕ) (r : RoomState) (comes b : Bool) (x y : Result Step RoomFault)
    → (b ≡ true → IfMoves k r comes x) → (b ≡ false → IfMoves k r comes y) → IfMoves k r comes (cond b x y)
if_moves k r comes true x y yeah nope = yeah refl
if_moves k r comes false x y yeah nope = nope refl

moves_fades : (k next next' : ℕ) (comes : Bool) (ls ms : List LegStay) → next ≤ next' → comes ≡ false → Fades k ls ms → Moves k next next' comes ls ms
moves_fades k next next' comes ls ms more none f = record {
  later = more;
  count = f.count;
  subscriber = f.subscriber;
  publisher = f.publisher;
  kept = λ _. f.stay;
  anew = λ is. absurd (cc);
}

-- who is present, or absent, as an endpoint is heard that is, or isn't, one of two
none_comes : (x y p q : Bool) → (x ≡ true → p ≡ true) → (y ≡ true → q ≡ true) → ((x && not p) || (y && not q)) ≡ false
none_comes true true p q first second = rw (first refl, second refl) refl
none_comes true false p q first second = rw (first refl) refl
none_comes false true p q first second = rw (second refl) refl
none_comes false false p q first second = refl

none_begins : (x y p q : Bool) → (x ≡ true → p ≡ false) → (y ≡ true → q ≡ false) → ((x && not p) || (y && not q)) ≡ false
    → ((x && q) || (y && p)) ≡ false
none_begins true y p q first second none = absurd (let e : not p ≡ true = rw (first refl) refl in one (not p) (y && not q) e none)
  where
    one : (b c : Bool) → b ≡ true → (b || c) ≡ false → ⊥
    one true c is none = cc
    one false c is none = cc
none_begins false true p q first second none = absurd (let e : not q ≡ true = rw (second refl) refl in cc)
none_begins false false p q first second none = refl

one_absent : (x y p q : Bool) → (x ≡ true → p ≡ false) → (y ≡ true → q ≡ false) → ((x && not p) || (y && not q)) ≡ true → (p && q) ≡ false
one_absent true y p q first second some = rw (first refl) refl
one_absent false true p q first second some = rw (second refl) (and_false p)
  where
    and_false : (b : Bool) → (b && false) ≡ false
    and_false true = refl
    and_false false = refl
one_absent false false p q first second some = absurd (cc)

-- the room before a call, and the two ends of the leg of this number
record IsAt (k a b : ℕ) (ha hb : Option ℕ) (r : RoomState) : Type 0 where
  subscriber : (leg_at r.legs k).subscriber ≡ a
  publisher : (leg_at r.legs k).publisher ≡ b
  subscribes : Before a ha r
  publishes : Before b hb r
  stands : StandsIn r

abbrev one_comes : ℕ → ℕ → Option ℕ → Option ℕ → RoomState → Call → Bool
one_comes a b ha hb r c =
    comes_by r.timeout a (max r.moment (moment_of c)) ha c || comes_by r.timeout b (max r.moment (moment_of c)) hb c

moves_come : (k a b : ℕ) (ha hb : Option ℕ) (r : RoomState) (m e : ℕ) → r.moment ≤ m → IsAt k a b ha hb r
    → is_present_at (after_leaving r m).endpoints e ≡ false
    → Moves k r.next (r.next + coming_count (after_leaving r m).endpoints e (after_leaving r m).legs)
    (((e == a) && not (is_recent r.timeout m ha)) || ((e == b) && not (is_recent r.timeout m hb)))
    r.legs (coming_legs (after_leaving r m).endpoints e r.next (after_leaving r m).legs)
moves_come k a b ha hb r m e more is absent =
    let t = after_leaving r m in
    let u = leg_at t.legs k in
    let ms = coming_legs t.endpoints e r.next t.legs in
    let f = fades_leaving k r m in
    let s = starts_coming k t.endpoints e r.next t.legs in
    let pa = is_present_at t.endpoints a in
    let pb = is_present_at t.endpoints b in
    let sub : u.subscriber ≡ a = f.subscriber ∙ is.subscriber in
    let pub' : u.publisher ≡ b = f.publisher ∙ is.publisher in
    let ra : pa ≡ is_recent r.timeout m ha = present_recent r m a ha more is.subscribes in
    let rb : pb ≡ is_recent r.timeout m hb = present_recent r m b hb more is.publishes in
    let here : (j : ℕ) → (e == j) ≡ true → is_present_at t.endpoints j ≡ false = λ j same. subst (λ i. is_present_at t.endpoints i ≡ false) (equal_of e j same) absent in
    let comes : (((e == a) && not pa) || ((e == b) && not pb)) ≡ (((e == a) && not (is_recent r.timeout m ha)) || ((e == b) && not (is_recent r.timeout m hb))) =
    rw (ra, rb) refl in
    let begins : begins_with t.endpoints e u ≡ (((e == a) && pb) || ((e == b) && pa)) = rw (sub, pub', same_test a e, same_test b e) refl in
    let stand : Stand t.endpoints t.legs = stand_leaving r.timeout m r.endpoints r.legs is.stands.stand in
    record {
      later = omega arith;
      count = s.count ∙ f.count;
      subscriber = s.subscriber ∙ f.subscriber;
      publisher = s.publisher ∙ f.publisher;
      kept = λ none some.
          let same = s.kept (begins ∙ none_begins (e == a) (e == b) pa pb (here a) (here b) (comes ∙ none)) in
          same ∙ f.stay (λ zero. some (same ∙ zero));
      anew = λ any some. step (begins_with t.endpoints e u) refl s some
          (none_absent t.endpoints t.legs k stand.matches
          (subst (λ i. (is_present_at t.endpoints i && is_present_at t.endpoints u.publisher) ≡ false) (sym sub)
          (subst (λ i. (pa && is_present_at t.endpoints i) ≡ false) (sym pub')
          (one_absent (e == a) (e == b) pa pb (here a) (here b) (comes ∙ any)))));
    }
  where
    step : (q : Bool) → begins_with (after_leaving r m).endpoints e (leg_at (after_leaving r m).legs k) ≡ q
        → Starts k r.next (begins_with (after_leaving r m).endpoints e) (after_leaving r m).legs (coming_legs (after_leaving r m).endpoints e r.next (after_leaving r m).legs)
        → (leg_at (coming_legs (after_leaving r m).endpoints e r.next (after_leaving r m).legs) k).stay ≢ 0
        → (leg_at (after_leaving r m).legs k).stay ≡ 0
        → r.next ≤ (leg_at (coming_legs (after_leaving r m).endpoints e r.next (after_leaving r m).legs) k).stay
    step true begins s some none = s.anew begins some
    step false begins s some none = absurd (some (s.kept begins ∙ none))

moves_hear : (k a b : ℕ) (ha hb : Option ℕ) (r : RoomState) (handed e ssrc : ℕ) → IsAt k a b ha hb r
    → IfMoves k r (one_comes a b ha hb r (Hear handed e ssrc)) (step_of r (Hear handed e ssrc))
moves_hear k a b ha hb r handed e ssrc is =
    let m = max r.moment handed in
    let t = after_leaving r m in
    let comes = one_comes a b ha hb r (Hear handed e ssrc) in
    let recent : (j : ℕ) (h : Option ℕ) → Before j h r → is_present_at t.endpoints e ≡ true → (e == j) ≡ true → is_recent r.timeout m h ≡ true =
    λ j h before present same. sym (present_recent r m j h (omega arith) before) ∙ subst (λ i. is_present_at t.endpoints i ≡ true) (equal_of e j same) present in
    if_moves k r comes (nat_le (length r.endpoints) e) _ _ (λ _. tt)
    (λ _. if_moves k r comes (not ((source_at r.endpoints e).0 == ssrc)) _ _ (λ _. tt)
    (λ _. if_moves k r comes (is_present_at t.endpoints e) _ _
    (λ present. moves_fades k r.next r.next comes r.legs t.legs (omega arith)
    (none_comes (e == a) (e == b) (is_recent r.timeout m ha) (is_recent r.timeout m hb) (recent a ha is.subscribes present) (recent b hb is.publishes present))
    (fades_leaving k r m))
    (λ absent. if_moves k r comes (nat_lt MAX_STAY (r.next + coming_count t.endpoints e t.legs)) _ _ (λ _. tt)
    (λ _. moves_come k a b ha hb r m e (omega arith) is absent))))

moves : (k a b : ℕ) (ha hb : Option ℕ) (r : RoomState) (c : Call) → IsAt k a b ha hb r → IfMoves k r (one_comes a b ha hb r c) (step_of r c)
moves k a b ha hb r (Hear handed e ssrc) is = moves_hear k a b ha hb r handed e ssrc is
moves k a b ha hb r (Bye handed e) is =
    let t = after_leaving r (max r.moment handed) in
    if_moves k r false (nat_le (length r.endpoints) e) _ _ (λ _. tt)
    (λ _. moves_fades k r.next r.next false r.legs (after_bye t e).legs (omega arith) refl
    (fades_then k r.legs t.legs (after_bye t e).legs (fades_leaving k r (max r.moment handed)) (fades_gone k t e)))
moves k a b ha hb r (Tick handed) is =
    moves_fades k r.next r.next false r.legs (after_leaving r (max r.moment handed)).legs (omega arith) refl (fades_leaving k r (max r.moment handed))
moves k a b ha hb r (Select handed number on) is =
    let m = max r.moment handed in
    let t = after_leaving r m in
    let l = leg_at t.legs number in
    if_moves k r false (nat_le (length r.legs) number) _ _ (λ _. tt)
    (λ _. if_moves k r false (is_selected on l) _ _
    (λ _. moves_fades k r.next r.next false r.legs t.legs (omega arith) refl (fades_leaving k r m))
    (λ _. if_moves k r false (takes_turn on l && nat_le MAX_STAY r.next) _ _ (λ _. tt)
    (λ _. moves_fades k r.next (cond (takes_turn on l) (r.next + 1) r.next) false r.legs (set t.legs number (switched_leg on r.next l)) (later (takes_turn on l) r.next) refl
    (fades_then k r.legs t.legs (set t.legs number (switched_leg on r.next l)) (fades_leaving k r m) (fades_switched k t.legs number r.next on)))))
moves k a b ha hb r (Receive e seq timestamp) is = moves_fades k r.next r.next false r.legs r.legs (omega arith) refl (fades_same k r.legs)
moves k a b ha hb r (Report e ntp rtp) is = moves_fades k r.next r.next false r.legs r.legs (omega arith) refl (fades_same k r.legs)
moves k a b ha hb r (MakeBlock e) is = moves_fades k r.next r.next false r.legs r.legs (omega arith) refl (fades_same k r.legs)

-- ---- every list of calls

before_next : (e : ℕ) (heard : Option ℕ) (r : RoomState) (c : Call) (s : Step) → Before e heard r → Keeps e heard r c s
    → Before e (heard_by e (max r.moment (moment_of c)) heard c) s.room
before_next e heard r c s b k = record {
  least = rw k.timeout b.least;
  inside = rw k.count b.inside;
  is = rw (k.timeout, k.moment) k.marks;
}

is_next : (k a b : ℕ) (ha hb : Option ℕ) (r : RoomState) (c : Call) (s : Step) → IsAt k a b ha hb r
    → Keeps a ha r c s → Keeps b hb r c s → StandsIn s.room → Moves k r.next s.room.next (one_comes a b ha hb r c) r.legs s.room.legs
    → IsAt k a b (heard_by a (max r.moment (moment_of c)) ha c) (heard_by b (max r.moment (moment_of c)) hb c) s.room
is_next k a b ha hb r c s is ka kb st mv = record {
  subscriber = mv.subscriber ∙ is.subscriber;
  publisher = mv.publisher ∙ is.publisher;
  subscribes = before_next a ha r c s is.subscribes ka;
  publishes = before_next b hb r c s is.publishes kb;
  stands = st;
}

-- how often the endpoint comes by calls from this room on
abbrev coming : ℕ → Option ℕ → RoomState → List Call → ℕ
coming e heard r calls = comings_from r.timeout e r.moment heard (accepted_calls r calls)

-- how often it comes by an accepted call and those after it
coming_next : (e : ℕ) (heard : Option ℕ) (r : RoomState) (c : Call) (s : Step) (calls : List Call) → Keeps e heard r c s
    → comings_from r.timeout e r.moment heard (c ∷ accepted_calls s.room calls)
    ≡ cond (comes_by r.timeout e (max r.moment (moment_of c)) heard c) 1 0 + coming e (heard_by e (max r.moment (moment_of c)) heard c) s.room calls
coming_next e heard r c s calls k =
    let now = max r.moment (moment_of c) in
    let heard' = heard_by e now heard c in
    let all = accepted_calls s.room calls in
    let same : comings_from s.room.timeout e s.room.moment heard' all ≡ comings_from r.timeout e now heard' all =
    ap (λ t. comings_from t e s.room.moment heard' all) k.timeout ∙ ap (λ m. comings_from r.timeout e m heard' all) k.moment in
    ap (λ n. cond (comes_by r.timeout e now heard c) 1 0 + n) (sym same)

-- what calls make of the leg of this number, by which its ends came so often
record Lasts (k next came : ℕ) (ls ms : List LegStay) : Type 0 where
  count : length ms ≡ length ls
  subscriber : (leg_at ms k).subscriber ≡ (leg_at ls k).subscriber
  publisher : (leg_at ms k).publisher ≡ (leg_at ls k).publisher
  kept : came ≡ 0 → (leg_at ms k).stay ≢ 0 → (leg_at ms k).stay ≡ (leg_at ls k).stay
  anew : 1 ≤ came → (leg_at ms k).stay ≢ 0 → next ≤ (leg_at ms k).stay

lasts_more : (k next next' : ℕ) (x y : Bool) (p q : ℕ) (ls ms os : List LegStay) → Moves k next next' (x || y) ls ms → Lasts k next' (p + q) ms os
    → Lasts k next (cond x 1 0 + p + (cond y 1 0 + q)) ls os
lasts_more k next next' x y p q ls ms os mv rest = record {
  count = rest.count ∙ mv.count;
  subscriber = rest.subscriber ∙ mv.subscriber;
  publisher = rest.publisher ∙ mv.publisher;
  kept = λ none some.
      let same = rest.kept (omega arith) some in
      same ∙ mv.kept (neither x y p q none) (λ zero. some (same ∙ zero));
  anew = λ least some. elim (cases_lt 0 (p + q)) [
    | inl more ↦ omega (arith, mv.later, rest.anew more some)
    | inr none ↦ (let same = rest.kept (omega arith) some in
        omega (arith, same, mv.anew (either x y p q (omega arith) least) (λ zero. some (same ∙ zero))))
  ];
}
  where
    neither : (x y : Bool) (p q : ℕ) → cond x 1 0 + p + (cond y 1 0 + q) ≡ 0 → (x || y) ≡ false
    neither true y p q none = absurd (omega arith)
    neither false true p q none = absurd (omega arith)
    neither false false p q none = refl

    either : (x y : Bool) (p q : ℕ) → p + q ≡ 0 → 1 ≤ cond x 1 0 + p + (cond y 1 0 + q) → (x || y) ≡ true
    either true y p q none some = refl
    either false true p q none some = refl
    either false false p q none some = absurd (omega arith)

lasts_after : (k a b : ℕ) (ha hb : Option ℕ) (r : RoomState) (calls : List Call) → IsAt k a b ha hb r
    → Lasts k r.next (coming a ha r calls + coming b hb r calls) r.legs (room_after r calls).legs
lasts_after k a b ha hb r [] is = record { count = refl; subscriber = refl; publisher = refl; kept = λ _ _. refl; anew = λ some. absurd (omega arith) }
lasts_after k a b ha hb r (c ∷ calls) is =
    step (step_of r c) (keeps a ha r c is.subscribes) (keeps b hb r c is.publishes) (stands r c is.stands) (moves k a b ha hb r c is)
    (λ ha' hb' r' is'. lasts_after k a b ha' hb' r' calls is')
  where
    step : (x : Result Step RoomFault) → IfKeeps a ha r c x → IfKeeps b hb r c x → IfStands x → IfMoves k r (one_comes a b ha hb r c) x
        → ((ha' hb' : Option ℕ) (r' : RoomState) → IsAt k a b ha' hb' r'
        → Lasts k r'.next (coming a ha' r' calls + coming b hb' r' calls) r'.legs (room_after r' calls).legs)
        → Lasts k r.next
        (comings_from r.timeout a r.moment ha (if_accepted c x ++ accepted_calls (room_of r x) calls)
        + comings_from r.timeout b r.moment hb (if_accepted c x ++ accepted_calls (room_of r x) calls))
        r.legs (room_after (room_of r x) calls).legs
    step (Err fault) ka kb st mv rest = rest ha hb r is
    step (Ok s) ka kb st mv rest =
        let now = max r.moment (moment_of c) in
        let ha' = heard_by a now ha c in
        let hb' = heard_by b now hb c in
        let after = lasts_more k r.next s.room.next (comes_by r.timeout a now ha c) (comes_by r.timeout b now hb c)
        (coming a ha' s.room calls) (coming b hb' s.room calls) r.legs s.room.legs (room_after s.room calls).legs mv
        (rest ha' hb' s.room (is_next k a b ha hb r c s is ka kb st mv)) in
        subst (λ n. Lasts k r.next (n + comings_from r.timeout b r.moment hb (c ∷ accepted_calls s.room calls)) r.legs (room_after s.room calls).legs)
        (sym (coming_next a ha r c s calls ka))
        (subst (λ n. Lasts k r.next (cond (comes_by r.timeout a now ha c) 1 0 + coming a ha' s.room calls + n) r.legs (room_after s.room calls).legs)
        (sym (coming_next b hb r c s calls kb)) after)

-- ---- calls, and calls after them

-- the counts of comings after some calls and after all of them, and what those between made of the leg of this number
record Parts (k next a all_a b all_b : ℕ) (ls ms : List LegStay) : Type 0 where
  subscribed : ℕ
  published : ℕ
  subscribes : all_a ≡ a + subscribed
  publishes : all_b ≡ b + published
  lasts : Lasts k next (subscribed + published) ls ms

splits : (k a b : ℕ) (ha hb : Option ℕ) (r : RoomState) (before after : List Call) → IsAt k a b ha hb r
    → Parts k (room_after r before).next (coming a ha r before) (coming a ha r (before ++ after)) (coming b hb r before) (coming b hb r (before ++ after))
    (room_after r before).legs (room_after r (before ++ after)).legs
splits k a b ha hb r [] after is = record {
  subscribed = coming a ha r after;
  published = coming b hb r after;
  subscribes = omega arith;
  publishes = omega arith;
  lasts = lasts_after k a b ha hb r after is;
}
splits k a b ha hb r (c ∷ before) after is =
    step (step_of r c) (keeps a ha r c is.subscribes) (keeps b hb r c is.publishes) (stands r c is.stands) (moves k a b ha hb r c is)
    (λ ha' hb' r' is'. splits k a b ha' hb' r' before after is')
  where
    step : (x : Result Step RoomFault) → IfKeeps a ha r c x → IfKeeps b hb r c x → IfStands x → IfMoves k r (one_comes a b ha hb r c) x
        → ((ha' hb' : Option ℕ) (r' : RoomState) → IsAt k a b ha' hb' r'
        → Parts k (room_after r' before).next (coming a ha' r' before) (coming a ha' r' (before ++ after)) (coming b hb' r' before) (coming b hb' r' (before ++ after))
        (room_after r' before).legs (room_after r' (before ++ after)).legs)
        → Parts k (room_after (room_of r x) before).next
        (comings_from r.timeout a r.moment ha (if_accepted c x ++ accepted_calls (room_of r x) before))
        (comings_from r.timeout a r.moment ha (if_accepted c x ++ accepted_calls (room_of r x) (before ++ after)))
        (comings_from r.timeout b r.moment hb (if_accepted c x ++ accepted_calls (room_of r x) before))
        (comings_from r.timeout b r.moment hb (if_accepted c x ++ accepted_calls (room_of r x) (before ++ after)))
        (room_after (room_of r x) before).legs (room_after (room_of r x) (before ++ after)).legs
    step (Err fault) ka kb st mv rest = rest ha hb r is
    step (Ok s) ka kb st mv rest =
        let now = max r.moment (moment_of c) in
        let p = rest (heard_by a now ha c) (heard_by b now hb c) s.room (is_next k a b ha hb r c s is ka kb st mv) in
        record {
          subscribed = p.subscribed;
          published = p.published;
          subscribes = omega (arith, coming_next a ha r c s before ka, coming_next a ha r c s (before ++ after) ka, p.subscribes);
          publishes = omega (arith, coming_next b hb r c s before kb, coming_next b hb r c s (before ++ after) kb, p.publishes);
          lasts = p.lasts;
        }

-- ---- a new room

-- the ends of the leg of this number
record Ends (s : Configuration) (k : ℕ) : Type 0 where
  subscriber : (leg_at (new_room s).legs k).subscriber < length s.endpoints
  publisher : (leg_at (new_room s).legs k).publisher < length s.endpoints

ends : (s : Configuration) (k : ℕ) → IsInRange s → k < length s.legs → Ends s k
ends s k range below =
    let any : LegSettings = record { subscriber = 0; publisher = 0; out_ssrc = record { 0 = 0 }; first_seq = 0; on = false } in
    let is : leg_at (new_room s).legs k ≡ idle_leg (get_or s.legs k any) = get_or-map idle_leg s.legs k any no_leg below in
    let among : IsLegAmong (length s.endpoints) (get_or s.legs k any) = range.legs k any below in
    record {
      subscriber = subst (λ (l : LegStay). l.subscriber < length s.endpoints) (sym is) among.subscriber;
      publisher = subst (λ (l : LegStay). l.publisher < length s.endpoints) (sym is) among.publisher;
    }

differ : (s : Configuration) → IsInRange s → All (λ (l : LegSettings). l.subscriber ≢ l.publisher) s.legs
differ s range = λ k d below. (range.legs k d below).different

start : (s : Configuration) (k : ℕ) → IsInRange s → Ends s k
    → IsAt k (leg_at (new_room s).legs k).subscriber (leg_at (new_room s).legs k).publisher None None (new_room s)
start s k range e = record {
  subscriber = refl;
  publisher = refl;
  subscribes = before_new s (leg_at (new_room s).legs k).subscriber range.least_timeout e.subscriber;
  publishes = before_new s (leg_at (new_room s).legs k).publisher range.least_timeout e.publisher;
  stands = stands_new s (differ s range);
}

-- a stay stands exactly while both ends of the leg are present
record IsThere (s : Configuration) (k : ℕ) (calls : List Call) : Type 0 where
  both : stay_after s calls k ≢ 0
      → (is_present_after s.timeout_ms (leg_at (new_room s).legs k).subscriber (accepted_calls (new_room s) calls)
      && is_present_after s.timeout_ms (leg_at (new_room s).legs k).publisher (accepted_calls (new_room s) calls)) ≡ true
  stands : (is_present_after s.timeout_ms (leg_at (new_room s).legs k).subscriber (accepted_calls (new_room s) calls)
      && is_present_after s.timeout_ms (leg_at (new_room s).legs k).publisher (accepted_calls (new_room s) calls)) ≡ true
      → stay_after s calls k ≢ 0

there : (s : Configuration) (k : ℕ) (calls : List Call) → IsInRange s → k < length s.legs → Ends s k → IsThere s k calls
there s k calls range below e =
    let a = (leg_at (new_room s).legs k).subscriber in
    let b = (leg_at (new_room s).legs k).publisher in
    let r = room_after (new_room s) calls in
    let l = lasts_after k a b None None (new_room s) calls (start s k range e) in
    let stand = stand_law s calls (differ s range) in
    let same : both_present r.endpoints (leg_at r.legs k)
    ≡ (is_present_after s.timeout_ms a (accepted_calls (new_room s) calls) && is_present_after s.timeout_ms b (accepted_calls (new_room s) calls)) =
    ap (λ i. is_present_at r.endpoints i && is_present_at r.endpoints (leg_at r.legs k).publisher) l.subscriber
    ∙ (ap (λ i. is_present_at r.endpoints a && is_present_at r.endpoints i) l.publisher
    ∙ (ap (λ p. p && is_present_at r.endpoints b) (presence_law s calls a range.least_timeout e.subscriber)
    ∙ ap (λ p. is_present_after s.timeout_ms a (accepted_calls (new_room s) calls) && p) (presence_law s calls b range.least_timeout e.publisher))) in
    let inside : k < length r.legs = omega (arith, l.count, length-map s.legs idle_leg) in
    record {
      both = λ some. sym same ∙ both_of r.endpoints r.legs k stand.matches some;
      stands = λ present. some_of r.endpoints r.legs k inside stand.matches (same ∙ present);
    }

and_left : (p q : Bool) → (p && q) ≡ true → p ≡ true
and_left true q both = refl
and_left false q both = both

and_right : (p q : Bool) → (p && q) ≡ true → q ≡ true
and_right true q both = both
and_right false q both = absurd (cc)

pub last_law : (s : Configuration) (before after : List Call) (k : ℕ) → IsInRange s → k < length s.legs → stay_after s before k ≢ 0
    → (stay_after s (before ++ after) k ≡ stay_after s before k)
    ↔ (IsOnePresence s (leg_at (new_room s).legs k).subscriber before (before ++ after)
    × IsOnePresence s (leg_at (new_room s).legs k).publisher before (before ++ after))
last_law s before after k range below some =
    let a = (leg_at (new_room s).legs k).subscriber in
    let b = (leg_at (new_room s).legs k).publisher in
    let e = ends s k range below in
    let p = splits k a b None None (new_room s) before after (start s k range e) in
    let was = there s k before range below e in
    let now = there s k (before ++ after) range below e in
    let next : stay_after s before k < (room_after (new_room s) before).next =
    once_below [] (orders_after (new_room s) before) (room_after (new_room s) before).next (room_after (new_room s) before).legs
    (once_after [] (new_room s) before (once_new s)) k in (
      (λ same.
          let some' : stay_after s (before ++ after) k ≢ 0 = λ zero. some (sym same ∙ zero) in
          let none : p.subscribed + p.published ≡ 0 = elim (cases_lt 0 (p.subscribed + p.published)) [
            | inl more ↦ absurd (omega (arith, same, next, p.lasts.anew more some'))
            | inr most ↦ omega arith
          ] in (
            record { was = and_left _ _ (was.both some); is = and_left _ _ (now.both some'); same = omega (arith, none, p.subscribes) },
            record { was = and_right _ _ (was.both some); is = and_right _ _ (now.both some'); same = omega (arith, none, p.publishes) },
          )),
      (λ one. p.lasts.kept (omega (arith, p.subscribes, p.publishes, one.0.same, one.1.same))
          (now.stands (both _ _ one.0.is one.1.is))),
    )
  where
    both : (p q : Bool) → p ≡ true → q ≡ true → (p && q) ≡ true
    both p q first second = rw (first, second) refl
