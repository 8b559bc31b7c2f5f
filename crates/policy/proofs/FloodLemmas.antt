-- Of what came of an endpoint as many are heard as the limit leaves.
use Rattle.std.proofs.Common.{◌≡◌, ◌∙◌, ◌≤◌, ◌<◌, ℕ, ◌+◌, ◌-◌, ◌*◌, inl, inr, Bool, true, false, List, [], ◌∷◌, refl, sym, ap, subst, arith}
use Rattle.std.specs.Prelude.{◌&&◌, nat_le, nat_lt, Some}
use Rattle.std.proofs.lemmas.Bool.{cases_Bool}
use Rattle.std.proofs.lemmas.Bool.Decides.{nat_tests}
use Rattle.std.proofs.Math.Nat.{mul-le-mul_left}
use Rattle.policy.specs.declared.flood_limiter.Bucket.{Bucket}
use Rattle.policy.specs.declared.flood_limiter.TheConstants.{BURST_MS}
use Rattle.policy.specs.FloodLimiter.{AreInOrder, KeepsWithin, bucket_after, empty_bucket, has_room, heard_since, is_heard, is_within, level_at, one_if}

-- ---- products

sum_of : (limit a b : ℕ) → limit * (a + b) ≡ limit * a + limit * b
sum_of limit a b = omega arith

-- what runs out in a stretch is what runs out in its two parts
parts : (limit from at to : ℕ) → from ≤ at → at ≤ to → limit * (to - from) ≡ limit * (to - at) + limit * (at - from)
parts limit from at to before after =
    let whole : to - from ≡ (to - at) + (at - from) = omega arith in
    ap (λ (n : ℕ). limit * n) whole ∙ sum_of limit (to - at) (at - from)

none_at : (limit at : ℕ) → limit * (at - at) ≡ 0
none_at limit at = let nothing : at - at ≡ 0 = omega arith in ap (λ (n : ℕ). limit * n) nothing ∙ omega arith

-- ---- one datagram

-- who bounds hears exactly what there is room for
heard_by_room : (limit : ℕ) (b : Bucket) (moment : ℕ) → 1 ≤ limit → is_within limit (Some b) moment ≡ has_room limit b moment
heard_by_room limit b moment some = grind (arith, nat_tests)

one_most : (a b : Bool) → one_if (a && b) ≤ one_if b
one_most true b = omega arith
one_most false true = omega arith
one_most false false = omega arith

-- ---- none came since, if the last didn't

too_early : (since moment : ℕ) (b : Bool) → moment < since → one_if (nat_le since moment && b) ≡ 0
too_early since moment b early = let not : nat_le since moment ≡ false = grind (arith, nat_tests) in ap (λ (c : Bool). one_if (c && b)) not

none_since : (limit since moment : ℕ) (earlier : List ℕ) → AreInOrder (moment ∷ earlier) → moment < since
    → heard_since limit since (moment ∷ earlier) ≡ 0
none_since limit since moment [] order early = omega (arith, too_early since moment (is_heard limit [] moment) early)
none_since limit since moment (before ∷ earlier) order early =
    let below : before < since = omega (arith, order.0, early) in
    omega (arith, too_early since moment (is_heard limit (before ∷ earlier) moment) early, none_since limit since before earlier order.1 below)

-- ---- no more were heard than are in the bucket, and ran out since

upper_step : (limit since before moment heard more level room : ℕ) → since ≤ before → before ≤ moment → more ≤ room
    → heard ≤ level + limit * (before - since)
    → more + heard ≤ level - limit * (moment - before) + room + limit * (moment - since)
upper_step limit since before moment heard more level room from to most was = omega (arith, most, was, parts limit since before moment from to)

upper : (limit since moment : ℕ) (earlier : List ℕ) → 1 ≤ limit → AreInOrder (moment ∷ earlier)
    → heard_since limit since (moment ∷ earlier) ≤ (bucket_after limit (moment ∷ earlier)).level + limit * (moment - since)
upper limit since moment [] some order =
    let most = one_most (nat_le since moment) (is_heard limit [] moment) in
    let same = ap one_if (heard_by_room limit empty_bucket moment some) in
    omega (arith, most, same)
upper limit since moment (before ∷ earlier) some order =
    let most = one_most (nat_le since moment) (is_heard limit (before ∷ earlier) moment) in
    let same = ap one_if (heard_by_room limit (bucket_after limit (before ∷ earlier)) moment some) in
    let bounded : one_if (nat_le since moment && is_heard limit (before ∷ earlier) moment)
    ≤ one_if (has_room limit (bucket_after limit (before ∷ earlier)) moment) = omega (arith, most, same) in
    elim (cases_Bool (nat_lt before since)) [
      | inl early ↦
          let none = none_since limit since before earlier order.1 (grind (arith, nat_tests)) in
          omega (arith, bounded, none)
      | inr late ↦
          upper_step limit since before moment (heard_since limit since (before ∷ earlier)) (one_if (nat_le since moment && is_heard limit (before ∷ earlier) moment))
          (bucket_after limit (before ∷ earlier)).level (one_if (has_room limit (bucket_after limit (before ∷ earlier)) moment))
          (grind (arith, nat_tests)) order.0 bounded (upper limit since before earlier some order.1)
    ]

-- it never has more in it than there is room for
room_left : (level whole : ℕ) (b : Bool) → nat_lt level whole ≡ b → level ≤ whole → level + one_if b ≤ whole
room_left level whole true is most = let less : level < whole = grind (arith, nat_tests) in omega (arith, less)
room_left level whole false is most = omega (arith, most)

never_over : (limit : ℕ) (came : List ℕ) → (bucket_after limit came).level ≤ limit * BURST_MS
never_over limit [] = omega arith
never_over limit (moment ∷ earlier) =
    room_left (level_at limit (bucket_after limit earlier) moment) (limit * BURST_MS) (has_room limit (bucket_after limit earlier) moment) refl
    (omega (arith, never_over limit earlier))

-- ---- since it was empty last, as many were heard as are in it, and ran out

record Filled (limit moment : ℕ) (earlier : List ℕ) : Type 0 where
  since : ℕ
  before : since ≤ moment
  filled : (bucket_after limit (moment ∷ earlier)).level + limit * (moment - since) ≤ heard_since limit since (moment ∷ earlier)

one_same : (since moment : ℕ) (b : Bool) → since ≤ moment → one_if (nat_le since moment && b) ≡ one_if b
one_same since moment b before = let is : nat_le since moment ≡ true = grind (arith, nat_tests) in ap (λ (c : Bool). one_if (c && b)) is

lower : (limit moment : ℕ) (earlier : List ℕ) → 1 ≤ limit → AreInOrder (moment ∷ earlier) → Filled limit moment earlier
lower limit moment [] some order = record {
  since = moment;
  before = omega arith;
  filled =
      let same = ap one_if (heard_by_room limit empty_bucket moment some) in
      omega (arith, same, none_at limit moment, one_same moment moment (is_heard limit [] moment) (omega arith));
}
lower limit moment (before ∷ earlier) some order =
    let was : Filled limit before earlier = lower limit before earlier some order.1 in
    let b : Bucket = bucket_after limit (before ∷ earlier) in
    let same : one_if (is_heard limit (before ∷ earlier) moment) ≡ one_if (has_room limit b moment) = ap one_if (heard_by_room limit b moment some) in
    elim (cases_Bool (nat_lt (limit * (moment - before)) b.level)) [
      | inl left ↦
          let less : limit * (moment - before) < b.level = grind (arith, nat_tests) in
          let from : was.since ≤ moment = omega (arith, was.before, order.0) in
          record {
            since = was.since;
            before = from;
            filled = omega (arith, less, same, was.filled, parts limit was.since before moment was.before order.0, one_same was.since moment (is_heard limit (before ∷ earlier) moment) from);
          }
      | inr out ↦
          let none : b.level ≤ limit * (moment - before) = grind (arith, nat_tests) in
          record {
            since = moment;
            before = omega arith;
            filled = omega (arith, none, same, none_at limit moment, one_same moment moment (is_heard limit (before ∷ earlier) moment) (omega arith));
          }
    ]

-- ---- the law

within_most : (limit moment k : ℕ) → limit * (moment - (moment - k)) ≤ limit * k
within_most limit moment k = mul-le-mul_left limit (omega arith)

at_most : (limit moment : ℕ) (earlier : List ℕ) (k : ℕ) → 1 ≤ limit → AreInOrder (moment ∷ earlier)
    → heard_since limit (moment - k) (moment ∷ earlier) ≤ limit * (k + BURST_MS)
at_most limit moment earlier k some order =
    omega (arith, upper limit (moment - k) moment earlier some order, never_over limit (moment ∷ earlier), within_most limit moment k)

leaves_room : (limit moment : ℕ) (earlier : List ℕ) (k : ℕ) → 1 ≤ limit → AreInOrder (moment ∷ earlier)
    → has_room limit (bucket_after limit earlier) moment ≡ true → heard_since limit (moment - k) earlier < limit * (k + BURST_MS)
leaves_room limit moment [] k some order room = omega (arith, some)
leaves_room limit moment (before ∷ earlier) k some order room =
    let b : Bucket = bucket_after limit (before ∷ earlier) in
    let less : b.level - limit * (moment - before) < limit * BURST_MS = grind (arith, nat_tests) in
    elim (cases_Bool (nat_lt before (moment - k))) [
      | inl early ↦
          let none = none_since limit (moment - k) before earlier order.1 (grind (arith, nat_tests)) in
          omega (arith, some, none)
      | inr late ↦
          let from : moment - k ≤ before = grind (arith, nat_tests) in
          omega (arith, less, upper limit (moment - k) before earlier some order.1, parts limit (moment - k) before moment from order.0, within_most limit moment k)
    ]

has_filled : (limit moment : ℕ) (earlier : List ℕ) → 1 ≤ limit → AreInOrder (moment ∷ earlier)
    → has_room limit (bucket_after limit earlier) moment ≡ false
    → ((k : ℕ) → heard_since limit (moment - k) earlier < limit * (k + BURST_MS)) → ⊥
has_filled limit moment [] some order full few =
    let over : limit * BURST_MS ≤ 0 - limit * (moment - 0) = grind (arith, nat_tests) in
    omega (arith, some, over)
has_filled limit moment (before ∷ earlier) some order full few =
    let b : Bucket = bucket_after limit (before ∷ earlier) in
    let over : limit * BURST_MS ≤ b.level - limit * (moment - before) = grind (arith, nat_tests) in
    let was : Filled limit before earlier = lower limit before earlier some order.1 in
    let back : moment - (moment - was.since) ≡ was.since = omega (arith, was.before, order.0) in
    let some_heard : heard_since limit was.since (before ∷ earlier) < limit * ((moment - was.since) + BURST_MS) =
    subst (λ (since : ℕ). heard_since limit since (before ∷ earlier) < limit * ((moment - was.since) + BURST_MS)) back (few (moment - was.since)) in
    omega (arith, some, over, some_heard, was.filled, sum_of limit (moment - was.since) BURST_MS, parts limit was.since before moment was.before order.0)

pub keeps_within : (limit moment : ℕ) (earlier : List ℕ) → 1 ≤ limit → AreInOrder (moment ∷ earlier) → KeepsWithin limit moment earlier
keeps_within limit moment earlier some order =
    let by_room = heard_by_room limit (bucket_after limit earlier) moment some in
    record {
      at_most = λ k. at_most limit moment earlier k some order;
      heard = (
        λ heard k. leaves_room limit moment earlier k some order (sym by_room ∙ heard),
        λ few. elim (cases_Bool (has_room limit (bucket_after limit earlier) moment)) [
          | inl room ↦ by_room ∙ room
          | inr full ↦ absurd (has_filled limit moment earlier some order full few)
        ],
      );
    }
