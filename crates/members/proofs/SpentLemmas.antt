-- Whether an endpoint that is heard begins more stays than numbers are left, told without letting anybody leave.
use Rattle.std.proofs.Common.{◌≡◌, ℕ, zero, suc, ◌+◌, ◌≤◌, List, [], ◌∷◌, length, map, refl, sym, ap, ◌∙◌, arith, Some, None, Err, Bool, true, false, cond, MatchBool, inl, inr}
use Rattle.std.specs.Prelude.{Option, not, ◌&&◌, nat_lt, is_some, filter, count_by, IsOk, if◌then◌else◌}
use Rattle.std.proofs.lemmas.Bool.Decides.{nat_tests}
use Rattle.std.proofs.lemmas.Bool.{cases_lt}
use Rattle.std.proofs.lemmas.List.Sums.{length-filter, count_by-le-length}
use Rattle.settings.specs.declared.fault.RoomFault.TheVariants.{StaysSpent}
use Rattle.members.specs.declared.presence.Endpoint.{Endpoint}
use Rattle.members.specs.declared.stays.LegStay.{LegStay}
use Rattle.members.specs.declared.stays.TheConstants.{MAX_STAY}
use Rattle.members.specs.Presence.{is_overdue_at, is_present_at}
use Rattle.members.specs.Stays.{Told, without_orders, is_of, leg_without, leave, after_overdue, leaving, begins_with, coming_count}
use Rattle.members.specs.Room.{RoomState, after_leaving, heard_step}
use Rattle.members.proofs.CallLemmas.{heard_at, overdue_of, overdue_heard, present_heard, leaving_count, leaving_lapsed}
use Rattle.members.proofs.OrderCountLemmas.{leaving_legs}
use Rattle.members.proofs.StayLemmas.{absent_beyond}

-- ---- who is present after those overdue left

left_some : (overdue : Bool) (heard : Option ℕ) → is_some (if overdue then None else heard) ≡ (is_some heard && not overdue)
left_some true None = refl
left_some true (Some h) = refl
left_some false None = refl
left_some false (Some h) = refl

-- who was present and isn't overdue
pub remains_at : (r : RoomState) (m e : ℕ)
    → (is_present_at r.endpoints e && not (is_overdue_at r.timeout m r.endpoints e)) ≡ is_present_at (after_leaving r m).endpoints e
remains_at r m e =
    elim (cases_lt e (length r.endpoints)) [
      | inl below ↦
          rw (present_heard r.endpoints e, overdue_heard r.timeout m r.endpoints e) (sym (
          present_heard (after_leaving r m).endpoints e ∙ ap is_some (leaving_lapsed r m e below)
          ∙ left_some (overdue_of r.timeout m (heard_at r.endpoints e)) (heard_at r.endpoints e)))
      | inr beyond ↦
          ap (λ (b : Bool). b && not (is_overdue_at r.timeout m r.endpoints e)) (absent_beyond r.endpoints e beyond)
          ∙ sym (absent_beyond (after_leaving r m).endpoints e (omega (arith, beyond, leaving_count r m)))
    ]

-- ---- how many stays begin

begins_without : (es : List Endpoint) (e k : ℕ) (l : LegStay) → begins_with es e (leg_without k l) ≡ begins_with es e l
begins_without es e k l = of (is_of k l)
  where
    of : (b : Bool) → begins_with es e (if b then record l { stay = 0 } else l) ≡ begins_with es e l
    of true = refl
    of false = refl

filter_without : (es : List Endpoint) (e k : ℕ) (ls : List LegStay)
    → length (filter (begins_with es e) (map (leg_without k) ls)) ≡ length (filter (begins_with es e) ls)
filter_without es e k [] = refl
filter_without es e k (l ∷ ls) =
    let same = begins_without es e k l in rw same (of (begins_with es e l) (filter_without es e k ls))
  where
    of : (b : Bool) → length (filter (begins_with es e) (map (leg_without k) ls)) ≡ length (filter (begins_with es e) ls)
        → length (cond b (leg_without k l ∷ filter (begins_with es e) (map (leg_without k) ls)) (filter (begins_with es e) (map (leg_without k) ls)))
        ≡ length (cond b (l ∷ filter (begins_with es e) ls) (filter (begins_with es e) ls))
    of true h = ap suc h
    of false h = h

count_without : (es : List Endpoint) (e k : ℕ) (ls : List LegStay) → count_by (begins_with es e) (map (leg_without k) ls) ≡ count_by (begins_with es e) ls
count_without es e k ls =
    sym (length-filter (begins_with es e) (map (leg_without k) ls)) ∙ filter_without es e k ls ∙ length-filter (begins_with es e) ls

count_after : (es : List Endpoint) (e t m : ℕ) (s : Told) (n : ℕ) → count_by (begins_with es e) (after_overdue t m s n).legs ≡ count_by (begins_with es e) s.legs
count_after es e t m s zero = refl
count_after es e t m s (suc n) = of (is_overdue_at t m (after_overdue t m s n).endpoints n) (count_after es e t m s n)
  where
    of : (b : Bool) → count_by (begins_with es e) (after_overdue t m s n).legs ≡ count_by (begins_with es e) s.legs
        → count_by (begins_with es e) (if b then leave (after_overdue t m s n) n else after_overdue t m s n).legs ≡ count_by (begins_with es e) s.legs
    of true h = count_without es e n (after_overdue t m s n).legs ∙ h
    of false h = h

-- who leaves takes no leg along
pub coming_as_held : (r : RoomState) (es : List Endpoint) (e m : ℕ) → coming_count es e (after_leaving r m).legs ≡ count_by (begins_with es e) r.legs
unfolding leaving coming_count
coming_as_held r es e m = count_after es e r.timeout m (without_orders r.endpoints r.legs) (length r.endpoints)

-- ---- an endpoint that is heard

pub heard_present : (r : RoomState) (m e : ℕ) → is_present_at (after_leaving r m).endpoints e ≡ true → IsOk (heard_step r m e (after_leaving r m))
heard_present r m e present = rw present refl

-- as many stays begin as there are numbers for, or more
pub heard_absent : (r : RoomState) (m e : ℕ) → is_present_at (after_leaving r m).endpoints e ≡ false
    → (spent : Bool) → nat_lt MAX_STAY (r.next + coming_count (after_leaving r m).endpoints e (after_leaving r m).legs) ≡ spent
    → MatchBool spent (heard_step r m e (after_leaving r m) ≡ Err StaysSpent) (IsOk (heard_step r m e (after_leaving r m)))
heard_absent r m e absent true is = rw (absent, is) refl
heard_absent r m e absent false is = rw (absent, is) refl

-- while there are as many numbers as legs, there are enough
pub heard_while_left : (r : RoomState) (m e : ℕ) → r.next + length r.legs ≤ MAX_STAY → IsOk (heard_step r m e (after_leaving r m))
unfolding coming_count
heard_while_left r m e left = of (is_present_at (after_leaving r m).endpoints e) refl
  where
    few : coming_count (after_leaving r m).endpoints e (after_leaving r m).legs ≤ length r.legs
    few = let t = after_leaving r m in omega (arith, count_by-le-length (begins_with t.endpoints e) t.legs, leaving_legs r m)

    enough : nat_lt MAX_STAY (r.next + coming_count (after_leaving r m).endpoints e (after_leaving r m).legs) ≡ false
    enough = grind (arith, nat_tests, few)

    of : (b : Bool) → is_present_at (after_leaving r m).endpoints e ≡ b → IsOk (heard_step r m e (after_leaving r m))
    of true present = heard_present r m e present
    of false absent = heard_absent r m e absent false enough
