-- From one call to every list of calls.
use Rattle.std.proofs.Common.{◌≡◌, ℕ, zero, suc, ◌+◌, ◌<◌, ◌≤◌, List, [], ◌∷◌, ◌++◌, length, set, map, refl, sym, ap, subst, ◌∙◌, arith, Some, None, Ok, Err, Result, Bool, true, false, cond, length-set, inl, inr}
use Rattle.std.specs.Prelude.{◌==◌, not, Option, ◌&&◌, slice_get, nat_le, nat_lt, max, is_some, option_and_then, if◌then◌else◌}
use Rattle.std.specs.Option.{option_map_or}
use Rattle.std.proofs.lemmas.Bool.Decides.{nat_tests}
use Rattle.std.proofs.lemmas.Bool.{cases_lt}
use Rattle.std.proofs.lemmas.List.{length-map}
use Rattle.settings.specs.declared.fault.RoomFault.{RoomFault}
use Rattle.members.specs.declared.presence.Endpoint.{Endpoint}
use Rattle.members.specs.declared.stays.TheConstants.{MAX_STAY}
use Rattle.members.specs.Presence.{is_overdue_at, is_present_at, source_at, with_heard}
use Rattle.members.specs.Stays.{Told, without_orders, leave, after_overdue, leaving, coming_count}
use Rattle.tmmbr_tuple.specs.declared.ssrc.Ssrc.{Ssrc}
use Rattle.settings.specs.Settings.{Configuration}
use Rattle.members.specs.Room.{RoomState, Step, step_with, after_leaving, leg_at, is_selected, takes_turn, absent, new_room}
use Rattle.members.specs.Calls.{Call, Hear, Bye, Tick, Select, Receive, Report, MakeBlock, step_of, room_of, if_accepted, room_after, accepted_calls, moment_of, greatest_moment, heard_by, last_heard, is_recent, is_present_after}

-- ---- when an endpoint was heard

abbrev pub heard_at : List Endpoint → ℕ → Option ℕ
heard_at es k = option_and_then (λ (e : Endpoint). e.heard) (slice_get es k)

abbrev pub overdue_of : ℕ → ℕ → Option ℕ → Bool
overdue_of t m heard = option_map_or (λ h. nat_le (h + t) m) heard false

pub overdue_heard : (t m : ℕ) (es : List Endpoint) (k : ℕ) → is_overdue_at t m es k ≡ overdue_of t m (heard_at es k)
unfolding is_overdue_at
overdue_heard t m [] k = refl
overdue_heard t m (e ∷ es) zero = refl
overdue_heard t m (e ∷ es) (suc k) = overdue_heard t m es k

pub present_heard : (es : List Endpoint) (k : ℕ) → is_present_at es k ≡ is_some (heard_at es k)
unfolding is_present_at
present_heard [] k = refl
present_heard (e ∷ es) zero = refl
present_heard (e ∷ es) (suc k) = present_heard es k

heard_set_same : (es : List Endpoint) (k : ℕ) (e : Endpoint) → k < length es → heard_at (set es k e) k ≡ e.heard
heard_set_same [] k e below = absurd (omega arith)
heard_set_same (x ∷ es) zero e below = refl
heard_set_same (x ∷ es) (suc k) e below = heard_set_same es k e (omega arith)

heard_set_other : (es : List Endpoint) (k j : ℕ) (e : Endpoint) → ¬ (j ≡ k) → heard_at (set es k e) j ≡ heard_at es j
heard_set_other [] k j e other = refl
heard_set_other (x ∷ es) zero zero e other = absurd (other refl)
heard_set_other (x ∷ es) zero (suc j) e other = refl
heard_set_other (x ∷ es) (suc k) zero e other = refl
heard_set_other (x ∷ es) (suc k) (suc j) e other = heard_set_other es k j e (λ same. other (ap suc same))

-- once those overdue have left
abbrev pub lapsed : ℕ → ℕ → Option ℕ → Option ℕ
lapsed t m heard = if overdue_of t m heard then None else heard

record LeftEndpoints (t m : ℕ) (s : Told) (n : ℕ) : Type 0 where
  count : length (after_overdue t m s n).endpoints ≡ length s.endpoints
  below : (k : ℕ) → k < n → k < length s.endpoints → heard_at (after_overdue t m s n).endpoints k ≡ lapsed t m (heard_at s.endpoints k)
  above : (k : ℕ) → n ≤ k → heard_at (after_overdue t m s n).endpoints k ≡ heard_at s.endpoints k

left_endpoints : (t m : ℕ) (s : Told) (n : ℕ) → LeftEndpoints t m s n
left_endpoints t m s zero = record { count = refl; below = λ k less _. absurd (omega arith); above = λ k more. refl }
left_endpoints t m s (suc n) = step (is_overdue_at t m (after_overdue t m s n).endpoints n) refl (left_endpoints t m s n)
  where
    step : (b : Bool) → is_overdue_at t m (after_overdue t m s n).endpoints n ≡ b → LeftEndpoints t m s n → LeftEndpoints t m s (suc n)
    step true is h =
        let was : overdue_of t m (heard_at s.endpoints n) ≡ true =
        ap (overdue_of t m) (sym (h.above n (omega arith))) ∙ (sym (overdue_heard t m (after_overdue t m s n).endpoints n) ∙ is) in
        record {
          count = rw is (length-set (after_overdue t m s n).endpoints n _ ∙ h.count);
          below = λ k less inside. rw is (elim (cases_lt k n) [
            | inl lower ↦ heard_set_other (after_overdue t m s n).endpoints n k _ (λ same. omega arith) ∙ h.below k lower inside
            | inr more ↦ (let same : k ≡ n = omega arith in
                rw same (heard_set_same (after_overdue t m s n).endpoints n _ (omega (arith, h.count)) ∙ rw was refl))
          ]);
          above = λ k more. rw is (heard_set_other (after_overdue t m s n).endpoints n k _ (λ same. omega arith) ∙ h.above k (omega arith));
        }
    step false is h =
        let was : overdue_of t m (heard_at s.endpoints n) ≡ false =
        ap (overdue_of t m) (sym (h.above n (omega arith))) ∙ (sym (overdue_heard t m (after_overdue t m s n).endpoints n) ∙ is) in
        record {
          count = rw is h.count;
          below = λ k less inside. rw is (elim (cases_lt k n) [
            | inl lower ↦ h.below k lower inside
            | inr more ↦ (let same : k ≡ n = omega arith in rw same (h.above n (omega arith) ∙ rw was refl))
          ]);
          above = λ k more. rw is (h.above k (omega arith));
        }

-- ---- what a room holds of a last hear

-- the last hear, if it was less than the timeout ago
abbrev pub fresh : ℕ → ℕ → Option ℕ → Option ℕ
fresh t m heard = if is_recent t m heard then heard else None

lapsed-fresh : (t m later : ℕ) (heard : Option ℕ) → m ≤ later → lapsed t later (fresh t m heard) ≡ fresh t later heard
lapsed-fresh t m later None more = refl
lapsed-fresh t m later (Some h) more = lapsing t m later h more
  where
    lapsing : (t m later h : ℕ) → m ≤ later → lapsed t later (fresh t m (Some h)) ≡ fresh t later (Some h)
    lapsing t m later h more = grind (arith, nat_tests)

fresh-now : (t m : ℕ) → 1 ≤ t → fresh t m (Some m) ≡ Some m
fresh-now t m least = grind (arith, nat_tests)

pub is_some-fresh : (t m : ℕ) (heard : Option ℕ) → is_some (fresh t m heard) ≡ is_recent t m heard
is_some-fresh t m None = refl
is_some-fresh t m (Some h) = some_recent t m h
  where
    some_recent : (t m h : ℕ) → is_some (fresh t m (Some h)) ≡ is_recent t m (Some h)
    some_recent t m h = grind (arith, nat_tests)

-- what a call leaves of one endpoint, if the room held its last hear
pub record Keeps (e : ℕ) (heard : Option ℕ) (r : RoomState) (c : Call) (step : Step) : Type 0 where
  pub timeout : step.room.timeout ≡ r.timeout
  pub moment : step.room.moment ≡ max r.moment (moment_of c)
  pub count : length step.room.endpoints ≡ length r.endpoints
  pub marks : heard_at step.room.endpoints e ≡ fresh r.timeout (max r.moment (moment_of c)) (heard_by e (max r.moment (moment_of c)) heard c)

abbrev pub IfKeeps : ℕ → Option ℕ → RoomState → Call → Result Step RoomFault → Type 0
IfKeeps e heard r c (Ok step) = Keeps e heard r c step
IfKeeps e heard r c (Err fault) = Unit {0}

if_keeps : (e : ℕ) (heard : Option ℕ) (r : RoomState) (c : Call) (b : Bool) (x y : Result Step RoomFault)
    → (b ≡ true → IfKeeps e heard r c x) → (b ≡ false → IfKeeps e heard r c y) → IfKeeps e heard r c (cond b x y)
if_keeps e heard r c true x y yeah nope = yeah refl
if_keeps e heard r c false x y yeah nope = nope refl

-- once those overdue have left
pub leaving_count : (r : RoomState) (m : ℕ) → length (after_leaving r m).endpoints ≡ length r.endpoints
unfolding leaving
leaving_count r m = (left_endpoints r.timeout m (without_orders r.endpoints r.legs) (length r.endpoints)).count

pub leaving_lapsed : (r : RoomState) (m e : ℕ) → e < length r.endpoints
    → heard_at (after_leaving r m).endpoints e ≡ lapsed r.timeout m (heard_at r.endpoints e)
unfolding leaving
leaving_lapsed r m e inside = (left_endpoints r.timeout m (without_orders r.endpoints r.legs) (length r.endpoints)).below e inside inside

pub leaving_heard : (r : RoomState) (m e : ℕ) (heard : Option ℕ) → r.moment ≤ m → e < length r.endpoints
    → heard_at r.endpoints e ≡ fresh r.timeout r.moment heard → heard_at (after_leaving r m).endpoints e ≡ fresh r.timeout m heard
leaving_heard r m e heard later inside is =
    leaving_lapsed r m e inside ∙ (ap (lapsed r.timeout m) is ∙ lapsed-fresh r.timeout r.moment m heard later)

-- an endpoint is marked
marked_heard : (r : RoomState) (m other e : ℕ) (heard mark : Option ℕ) → r.moment ≤ m → e < length r.endpoints
    → heard_at r.endpoints e ≡ fresh r.timeout r.moment heard → fresh r.timeout m mark ≡ mark
    → heard_at (with_heard (after_leaving r m).endpoints other mark) e ≡ fresh r.timeout m (cond (other == e) mark heard)
marked_heard r m other e heard mark later inside is stays = step (other == e) refl
  where
    step : (b : Bool) → (other == e) ≡ b
        → heard_at (with_heard (after_leaving r m).endpoints other mark) e ≡ fresh r.timeout m (cond b mark heard)
    step true same =
        let equal : other ≡ e = grind (arith, nat_tests) in
        rw equal (heard_set_same (after_leaving r m).endpoints e _ (omega (arith, leaving_count r m)) ∙ sym stays)
    step false apart =
        let differ : ¬ (e ≡ other) = λ equal. absurd (let e : (other == other) ≡ false = rw equal at apart in let t : (other == other) ≡ true = grind (arith, nat_tests) in cc) in
        heard_set_other (after_leaving r m).endpoints other e _ differ ∙ leaving_heard r m e heard later inside is

none_of : (o : Option ℕ) → is_some o ≡ false → o ≡ None
none_of None is = refl
none_of (Some x) is = absurd (cc)

-- who is absent and says goodbye stays absent
absent_heard : (r : RoomState) (m other e : ℕ) (heard : Option ℕ) → r.moment ≤ m → e < length r.endpoints
    → heard_at r.endpoints e ≡ fresh r.timeout r.moment heard → is_present_at (after_leaving r m).endpoints other ≡ false
    → heard_at (after_leaving r m).endpoints e ≡ fresh r.timeout m (cond (other == e) None heard)
absent_heard r m other e heard later inside is absent = step (other == e) refl
  where
    step : (b : Bool) → (other == e) ≡ b → heard_at (after_leaving r m).endpoints e ≡ fresh r.timeout m (cond b None heard)
    step true same =
        let equal : other ≡ e = grind (arith, nat_tests) in
        none_of (heard_at (after_leaving r m).endpoints e)
        (sym (present_heard (after_leaving r m).endpoints e) ∙ (ap (is_present_at (after_leaving r m).endpoints) (sym equal) ∙ absent))
    step false apart = leaving_heard r m e heard later inside is

pub record Before (e : ℕ) (heard : Option ℕ) (r : RoomState) : Type 0 where
  pub least : 1 ≤ r.timeout
  pub inside : e < length r.endpoints
  pub is : heard_at r.endpoints e ≡ fresh r.timeout r.moment heard

keeps_tick : (e : ℕ) (heard : Option ℕ) (r : RoomState) (handed : ℕ) → Before e heard r → IfKeeps e heard r (Tick handed) (step_of r (Tick handed))
keeps_tick e heard r handed b = record {
  timeout = refl;
  moment = refl;
  count = leaving_count r (max r.moment handed);
  marks = leaving_heard r (max r.moment handed) e heard (omega arith) b.inside b.is;
}

keeps_bye : (e : ℕ) (heard : Option ℕ) (r : RoomState) (handed other : ℕ) → Before e heard r
    → IfKeeps e heard r (Bye handed other) (step_of r (Bye handed other))
keeps_bye e heard r handed other b =
    if_keeps e heard r (Bye handed other) (nat_le (length r.endpoints) other) _ _ (λ _. tt)
    (λ _. step (is_present_at (after_leaving r (max r.moment handed)).endpoints other) refl)
  where
    step : (p : Bool) → is_present_at (after_leaving r (max r.moment handed)).endpoints other ≡ p
        → Keeps e heard r (Bye handed other)
        (step_with r (max r.moment handed) r.next
        (cond p (leave (after_leaving r (max r.moment handed)) other) (after_leaving r (max r.moment handed))))
    step true present = record {
      timeout = refl;
      moment = refl;
      count = length-set (after_leaving r (max r.moment handed)).endpoints other _ ∙ leaving_count r (max r.moment handed);
      marks = marked_heard r (max r.moment handed) other e heard None (omega arith) b.inside b.is refl;
    }
    step false absent = record {
      timeout = refl;
      moment = refl;
      count = leaving_count r (max r.moment handed);
      marks = absent_heard r (max r.moment handed) other e heard (omega arith) b.inside b.is absent;
    }

keeps_hear : (e : ℕ) (heard : Option ℕ) (r : RoomState) (handed other ssrc : ℕ) → Before e heard r
    → IfKeeps e heard r (Hear handed other ssrc) (step_of r (Hear handed other ssrc))
keeps_hear e heard r handed other ssrc b =
    let m = max r.moment handed in
    let t = after_leaving r m in
    let count = length-set t.endpoints other (record { ssrc = source_at t.endpoints other; heard = Some m }) ∙ leaving_count r m in
    let is = marked_heard r m other e heard (Some m) (omega arith) b.inside b.is (fresh-now r.timeout m b.least) in
    if_keeps e heard r (Hear handed other ssrc) (nat_le (length r.endpoints) other) _ _ (λ _. tt)
    (λ _. if_keeps e heard r (Hear handed other ssrc) (not ((source_at r.endpoints other).0 == ssrc)) _ _ (λ _. tt)
    (λ _. if_keeps e heard r (Hear handed other ssrc) (is_present_at t.endpoints other) _ _
    (λ _. record { timeout = refl; moment = refl; count = count; marks = is })
    (λ _. if_keeps e heard r (Hear handed other ssrc) (nat_lt MAX_STAY (r.next + coming_count t.endpoints other t.legs)) _ _ (λ _. tt)
    (λ _. record { timeout = refl; moment = refl; count = count; marks = is }))))

keeps_select : (e : ℕ) (heard : Option ℕ) (r : RoomState) (handed number : ℕ) (on : Bool) → Before e heard r
    → IfKeeps e heard r (Select handed number on) (step_of r (Select handed number on))
keeps_select e heard r handed number on b =
    let m = max r.moment handed in
    let t = after_leaving r m in
    let l = leg_at t.legs number in
    let count = leaving_count r m in
    let is = leaving_heard r m e heard (omega arith) b.inside b.is in
    if_keeps e heard r (Select handed number on) (nat_le (length r.legs) number) _ _ (λ _. tt)
    (λ _. if_keeps e heard r (Select handed number on) (is_selected on l) _ _
    (λ _. record { timeout = refl; moment = refl; count = count; marks = is })
    (λ _. if_keeps e heard r (Select handed number on) (takes_turn on l && nat_le MAX_STAY r.next) _ _ (λ _. tt)
    (λ _. record { timeout = refl; moment = refl; count = count; marks = is })))

-- a call that changes receptions alone
keeps_marks : (e : ℕ) (heard : Option ℕ) (r : RoomState) → Before e heard r → heard_at r.endpoints e ≡ fresh r.timeout (max r.moment 0) heard
keeps_marks e heard r b =
    let same : r.moment ≡ max r.moment 0 = omega arith in
    subst (λ m. heard_at r.endpoints e ≡ fresh r.timeout m heard) same b.is

pub keeps : (e : ℕ) (heard : Option ℕ) (r : RoomState) (c : Call) → Before e heard r → IfKeeps e heard r c (step_of r c)
keeps e heard r (Hear handed other ssrc) b = keeps_hear e heard r handed other ssrc b
keeps e heard r (Bye handed other) b = keeps_bye e heard r handed other b
keeps e heard r (Tick handed) b = keeps_tick e heard r handed b
keeps e heard r (Select handed number on) b = keeps_select e heard r handed number on b
keeps e heard r (Receive other seq timestamp) b = record { timeout = refl; moment = omega arith; count = refl; marks = keeps_marks e heard r b }
keeps e heard r (Report other ntp rtp) b = record { timeout = refl; moment = omega arith; count = refl; marks = keeps_marks e heard r b }
keeps e heard r (MakeBlock other) b = record { timeout = refl; moment = omega arith; count = refl; marks = keeps_marks e heard r b }

-- ---- every list of calls

record Heard (e : ℕ) (heard : Option ℕ) (timeout moment : ℕ) (final : RoomState) (calls : List Call) : Type 0 where
  held : heard_at final.endpoints e ≡ fresh timeout (greatest_moment moment calls) (last_heard e moment heard calls)
  latest : final.moment ≡ greatest_moment moment calls

heard_after : (e : ℕ) (heard : Option ℕ) (r : RoomState) (calls : List Call) → Before e heard r
    → Heard e heard r.timeout r.moment (room_after r calls) (accepted_calls r calls)
heard_after e heard r [] b = record { held = b.is; latest = refl }
heard_after e heard r (c ∷ calls) b = step (step_of r c) (keeps e heard r c b) (λ heard' r' b'. heard_after e heard' r' calls b')
  where
    step : (x : Result Step RoomFault) → IfKeeps e heard r c x
        → ((heard' : Option ℕ) (r' : RoomState) → Before e heard' r' → Heard e heard' r'.timeout r'.moment (room_after r' calls) (accepted_calls r' calls))
        → Heard e heard r.timeout r.moment (room_after (room_of r x) calls) (if_accepted c x ++ accepted_calls (room_of r x) calls)
    step (Err fault) k rest = rest heard r b
    step (Ok s) k rest =
        let now = max r.moment (moment_of c) in
        let before : Before e (heard_by e now heard c) s.room = record {
          least = rw k.timeout b.least;
          inside = rw k.count b.inside;
          is = rw (k.timeout, k.moment) k.marks;
        } in
        let after = rest (heard_by e now heard c) s.room before in
        record {
          held = subst (λ t. heard_at (room_after s.room calls).endpoints e
              ≡ fresh t (greatest_moment now (accepted_calls s.room calls)) (last_heard e now (heard_by e now heard c) (accepted_calls s.room calls))) k.timeout
              (subst (λ m. heard_at (room_after s.room calls).endpoints e
              ≡ fresh s.room.timeout (greatest_moment m (accepted_calls s.room calls)) (last_heard e m (heard_by e now heard c) (accepted_calls s.room calls))) k.moment
              after.held);
          latest = subst (λ m. (room_after s.room calls).moment ≡ greatest_moment m (accepted_calls s.room calls)) k.moment after.latest;
        }

-- ---- a new room

absent_at : (ssrcs : List Ssrc) (e : ℕ) → heard_at (map absent ssrcs) e ≡ None
absent_at [] e = refl
absent_at (s ∷ ssrcs) zero = refl
absent_at (s ∷ ssrcs) (suc e) = absent_at ssrcs e

pub before_new : (s : Configuration) (e : ℕ) → 1 ≤ s.timeout_ms → e < length s.endpoints → Before e None (new_room s)
before_new s e least inside = record {
  least = least;
  inside = rw length-map inside;
  is = absent_at s.endpoints e;
}

pub presence_law : (s : Configuration) (calls : List Call) (e : ℕ) → 1 ≤ s.timeout_ms → e < length s.endpoints
    → is_present_at (room_after (new_room s) calls).endpoints e ≡ is_present_after s.timeout_ms e (accepted_calls (new_room s) calls)
presence_law s calls e least inside =
    let h = heard_after e None (new_room s) calls (before_new s e least inside) in
    present_heard (room_after (new_room s) calls).endpoints e
    ∙ (ap is_some h.held
    ∙ is_some-fresh s.timeout_ms (greatest_moment 0 (accepted_calls (new_room s) calls)) (last_heard e 0 None (accepted_calls (new_room s) calls)))

pub moment_law : (s : Configuration) (calls : List Call) (e : ℕ) → 1 ≤ s.timeout_ms → e < length s.endpoints
    → (room_after (new_room s) calls).moment ≡ greatest_moment 0 (accepted_calls (new_room s) calls)
moment_law s calls e least inside = (heard_after e None (new_room s) calls (before_new s e least inside)).latest
