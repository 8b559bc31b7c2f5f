-- Rounds of reports: whose report is due, where none is, where all are; and how slots come.
use Rattle.std.proofs.Common.{◌≡◌, ◌∙◌, ℕ, zero, ◌+◌, ◌*◌, ◌/◌, ◌≤◌, ◌<◌, List, [], ◌∷◌, ◌++◌, map, Bool, true, false, cond, inl, inr, refl, sym, ap, ap₂, arith}
use Rattle.std.proofs.Math.Nat.{div-le_of_le-mul, div-mul-le_self, le-div_iff_mul-le, mul-le-mul_left, mul-le-mul_right}
use Rattle.std.proofs.lemmas.Bool.{cond-false, cond-true, le-leb, le-ltb, lt-leb, lt-ltb}
use Rattle.std.proofs.lemmas.Bool.Decides.{leb_tells, nat_tests}
use Rattle.std.specs.Prelude.{◌&&◌, filter, nat_le, nat_lt}
use Rattle.std.specs.List.{flat_map, enumerate_from}
use Rattle.settings.specs.Links.{LinkTable}
use Rattle.settings.specs.declared.settings.LegSettings.{LegSettings}
use Rattle.members.specs.Presence.{is_present_at}
use Rattle.members.specs.Room.{RoomState}
use Rattle.core_steps.specs.Hearing.{leg_report, leg_report_if, numbers_below, reports_due}
use Rattle.core_steps.specs.Rounds.{comes_between, slot_of, slots_come}
use Rattle.core_steps.specs.World.{Setup, Task, report}

-- ---- none is due

filter_none : {X : Type 0} (p : X → Bool) (xs : List X) → ((x : X) → p x ≡ false) → filter p xs ≡ []
filter_none p [] never = refl
filter_none {X} p (x ∷ xs) never = ap (λ (b : Bool). cond b (x ∷ filter p xs) (filter p xs)) (never x) ∙ filter_none p xs never

flat_none : {X Y : Type 0} (f : X → List Y) (xs : List X) → ((x : X) → f x ≡ []) → flat_map f xs ≡ []
flat_none f [] never = refl
flat_none {X} {Y} f (x ∷ xs) never = ap (λ (l : List Y). l ++ flat_map f xs) (never x) ∙ flat_none f xs never

and_false : (a b : Bool) → b ≡ false → (a && b) ≡ false
and_false true b e = e
and_false false b e = refl

none_of : (t : LinkTable) (r : RoomState) (is_due : ℕ → Bool) → ((n : ℕ) → is_due n ≡ false) → (p : ℕ × LegSettings) → leg_report_if t r is_due p ≡ []
none_of t r is_due never (leg, l) = cond-false (is_due leg) (leg_report t r (leg, l)) [] (never leg)

pub none_due : (t : LinkTable) (r : RoomState) (is_due : ℕ → Bool) (endpoints : ℕ) → ((n : ℕ) → is_due n ≡ false)
    → reports_due t r is_due endpoints ≡ []
none_due t r is_due endpoints never =
    ap₂ (λ (up : List ℕ) (down : List Task). map report up ++ down)
    (filter_none (λ e. is_present_at r.endpoints e && is_due e) (numbers_below endpoints)
    (λ e. and_false (is_present_at r.endpoints e) (is_due e) (never e)))
    (flat_none (leg_report_if t r is_due) (enumerate_from 0 t.legs) (none_of t r is_due never))

between_none : (done come slot : ℕ) → come ≤ done → (nat_le done slot && nat_lt slot come) ≡ false
between_none done come slot h = grind (arith, nat_tests)

-- no slot comes
pub none_between : (s : Setup) (done come : ℕ) → come ≤ done → (n : ℕ) → comes_between s done come n ≡ false
none_between s done come h n = between_none done come (slot_of s n) h

-- ---- all are due

filter_same : {X : Type 0} (p q : X → Bool) (xs : List X) → ((x : X) → p x ≡ q x) → filter p xs ≡ filter q xs
filter_same p q [] same = refl
filter_same {X} p q (x ∷ xs) same =
    ap₂ (λ (b : Bool) (l : List X). cond b (x ∷ l) l) (same x) (filter_same p q xs same)

flat_same : {X Y : Type 0} (f g : X → List Y) (xs : List X) → ((x : X) → f x ≡ g x) → flat_map f xs ≡ flat_map g xs
flat_same f g [] same = refl
flat_same {X} {Y} f g (x ∷ xs) same = ap₂ (λ (a b : List Y). a ++ b) (same x) (flat_same f g xs same)

and_true : (a b : Bool) → b ≡ true → (a && b) ≡ a
and_true true b e = e
and_true false b e = refl

all_of : (t : LinkTable) (r : RoomState) (is_due : ℕ → Bool) → ((n : ℕ) → is_due n ≡ true) → (p : ℕ × LegSettings)
    → leg_report_if t r is_due p ≡ leg_report t r p
all_of t r is_due always (leg, l) = cond-true (is_due leg) (leg_report t r (leg, l)) [] (always leg)

pub all_due : (t : LinkTable) (r : RoomState) (is_due : ℕ → Bool) (endpoints : ℕ) → ((n : ℕ) → is_due n ≡ true)
    → reports_due t r is_due endpoints
    ≡ map report (filter (is_present_at r.endpoints) (numbers_below endpoints)) ++ flat_map (leg_report t r) (enumerate_from 0 t.legs)
all_due t r is_due endpoints always =
    ap₂ (λ (up : List ℕ) (down : List Task). map report up ++ down)
    (filter_same (λ e. is_present_at r.endpoints e && is_due e) (is_present_at r.endpoints) (numbers_below endpoints)
    (λ e. and_true (is_present_at r.endpoints e) (is_due e) (always e)))
    (flat_same (leg_report_if t r is_due) (leg_report t r) (enumerate_from 0 t.legs) (all_of t r is_due always))

-- ---- how slots come

-- all have, once the period is over
pub come_all : (s : Setup) (since : ℕ) → s.report_ms ≤ since → slots_come s since ≡ s.report_slots
come_all s since over =
    cond-true (nat_le s.report_ms since) s.report_slots (since * s.report_slots / s.report_ms) (le-leb s.report_ms since over)

pub come_part : (s : Setup) (since : ℕ) → since < s.report_ms → slots_come s since ≡ since * s.report_slots / s.report_ms
come_part s since before =
    cond-false (nat_le s.report_ms since) s.report_slots (since * s.report_slots / s.report_ms) (lt-leb s.report_ms since before)

part_below : (s : Setup) (since : ℕ) → since < s.report_ms → since * s.report_slots / s.report_ms ≤ s.report_slots
part_below s since before =
    div-le_of_le-mul s.report_ms (mul-le-mul_right s.report_slots (let h : since ≤ s.report_ms = omega arith in h))

pub come_most : (s : Setup) (since : ℕ) → slots_come s since ≤ s.report_slots
come_most s since =
    elim (leb_tells s.report_ms since) [
      | inl over ↦ omega (arith, come_all s since over.1)
      | inr before ↦ omega (arith, come_part s since before.1, part_below s since before.1)
    ]

-- none of them goes again
pub come_rises : (s : Setup) (since later : ℕ) → since ≤ later → slots_come s since ≤ slots_come s later
come_rises s since later on =
    elim (leb_tells s.report_ms later) [
      | inl over ↦ omega (arith, come_all s later over.1, come_most s since)
      | inr before ↦ step before.1
    ]
  where
    step : later < s.report_ms → slots_come s since ≤ slots_come s later
    step before =
        let first : since < s.report_ms = omega arith in
        let some : zero < s.report_ms = omega arith in
        let least : since * s.report_slots / s.report_ms * s.report_ms ≤ since * s.report_slots = div-mul-le_self (since * s.report_slots) s.report_ms in
        let most : since * s.report_slots ≤ later * s.report_slots = mul-le-mul_right s.report_slots on in
        let both : since * s.report_slots / s.report_ms * s.report_ms ≤ later * s.report_slots = omega (arith, least, most) in
        let rise : since * s.report_slots / s.report_ms ≤ later * s.report_slots / s.report_ms = (le-div_iff_mul-le some).1 both in
        omega (arith, come_part s since first, come_part s later before, rise)

same_test : (a b c d : ℕ) → (a < b → c ≤ d) → (c ≤ d → a < b) → nat_lt a b ≡ nat_le c d
same_test a b c d f g =
    elim (leb_tells c d) [
      | inl here ↦ lt-ltb a b (g here.1) ∙ sym here.0
      | inr over ↦ le-ltb a b (above over.1) ∙ sym over.0
    ]
  where
    above : d < c → b ≤ a
    above beyond = elim (leb_tells b a) [ inl is ↦ is.1 | inr is ↦ (let here : c ≤ d = f is.1 in omega (arith, here, beyond)) ]

pub comes_evenly : (s : Setup) (since k : ℕ) → k < s.report_slots
    → nat_lt k (slots_come s since) ≡ nat_le ((k + 1) * s.report_ms) (since * s.report_slots)
comes_evenly s since k low =
    elim (leb_tells s.report_ms since) [ inl over ↦ all over.1 | inr before ↦ part before.1 ]
  where
    all : s.report_ms ≤ since → nat_lt k (slots_come s since) ≡ nat_le ((k + 1) * s.report_ms) (since * s.report_slots)
    all over =
        let first : (k + 1) * s.report_ms ≤ s.report_slots * s.report_ms = mul-le-mul_right s.report_ms (let h : k + 1 ≤ s.report_slots = omega arith in h) in
        let second : s.report_slots * s.report_ms ≤ s.report_slots * since = mul-le-mul_left s.report_slots over in
        let both : (k + 1) * s.report_ms ≤ since * s.report_slots = omega (arith, first, second) in
        let below : k < slots_come s since = omega (arith, come_all s since over, low) in
        lt-ltb k (slots_come s since) below ∙ sym (le-leb ((k + 1) * s.report_ms) (since * s.report_slots) both)

    part : since < s.report_ms → nat_lt k (slots_come s since) ≡ nat_le ((k + 1) * s.report_ms) (since * s.report_slots)
    part before =
        let some : zero < s.report_ms = omega arith in
        let is = le-div_iff_mul-le {k = s.report_ms} {x = k + 1} {y = since * s.report_slots} some in
        same_test k (slots_come s since) ((k + 1) * s.report_ms) (since * s.report_slots)
        (λ below. is.0 (omega (arith, below, come_part s since before)))
        (λ come. let more : k + 1 ≤ since * s.report_slots / s.report_ms = is.1 come in omega (arith, more, come_part s since before))
