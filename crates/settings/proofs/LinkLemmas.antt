-- The legs of a table, one more at a time.
use Rattle.std.proofs.Common.{◌≡◌, ℕ, ◌+◌, ◌<◌, ◌≤◌, ⊎_elim, List, [], ◌∷◌, ◌++◌, length, drop, get_or, refl, sym, subst, ◌∙◌, arith, length-append}
use Rattle.std.proofs.lemmas.List.{at_drop_more}
use Rattle.std.proofs.lemmas.List.Elements.{All-head, All-tail}
use Rattle.std.proofs.lemmas.Bool.{cases_lt}
use Rattle.std.proofs.lemmas.Bool.Decides.{nat_tests}
use Rattle.std.proofs.lemmas.Option.{slice_get_within}
use Rattle.circular_buffer.proofs.Places.{slice_get-append_left, slice_get-append_right}
use Rattle.std.specs.Prelude.{◌==◌, ◌&&◌, nat_eq, None, Some, slice_get, All, if◌then◌else◌}
use Rattle.std.specs.List.{enumerate_from}
use Rattle.std.specs.HashMap.{get}
use Rattle.settings.specs.declared.settings.LegSettings.{LegSettings}
use Rattle.settings.specs.Settings.{IsLegAmong}
use Rattle.settings.specs.Links.{leg_numbers_of, first_to}
use Rattle.settings.specs.Places.{Sources, FindsLegs}

-- a list after which one element is put has at each place what it had, or that element
pub at_push : {X : Type 0} (xs : List X) (x : X) (P : ℕ → X → Type 0)
    → ((k : ℕ) (v : X) → slice_get xs k ≡ Some v → P k v) → P (length xs) x
    → (k : ℕ) (v : X) → slice_get (xs ++ x ∷ []) k ≡ Some v → P k v
at_push {X} xs x P before here k v is =
    let within = slice_get_within (xs ++ x ∷ []) k v is in
    let size = length-append xs (x ∷ []) in
    ⊎_elim
    (λ (below : k < length xs). before k v (sym (slice_get-append_left xs (x ∷ []) k below) ∙ is))
    (λ (above : length xs ≤ k).
    let at : k ≡ length xs = omega arith in
    let same : Some x ≡ Some v = sym (slice_get-append_right xs (x ∷ []) k 0 (omega arith)) ∙ is in
    let item : x ≡ v = cc in
    let Q : ℕ → Type 0 = λ n. P n v in
    let R : X → Type 0 = λ y. P (length xs) y in
    subst Q (sym at) (subst R item here))
    (cases_lt k (length xs))

-- no leg is of a publisher that isn't there
pub numbers_past : (n publisher first : ℕ) (legs : List LegSettings) → All (IsLegAmong n) legs → n ≤ publisher
    → leg_numbers_of publisher (enumerate_from first legs) ≡ []
numbers_past n publisher first [] h past = refl
numbers_past n publisher first (l ∷ ls) h past =
    let bound = (All-head (IsLegAmong n) l ls h).publisher in
    let rest = numbers_past n publisher (first + 1) ls (All-tail (IsLegAmong n) l ls h) past in
    grind (arith, nat_tests)

-- no leg is to a subscriber that isn't there
pub first_past : (n subscriber source first : ℕ) (legs : List LegSettings) → All (IsLegAmong n) legs → n ≤ subscriber
    → first_to subscriber source (enumerate_from first legs) ≡ None
first_past n subscriber source first [] h past = refl
first_past n subscriber source first (l ∷ ls) h past =
    let bound = (All-head (IsLegAmong n) l ls h).subscriber in
    let rest = first_past n subscriber source (first + 1) ls (All-tail (IsLegAmong n) l ls h) past in
    grind (arith, nat_tests)

-- the first leg from one leg on
pub first_step : (subscriber source i : ℕ) (legs : List LegSettings) (d : LegSettings) → i < length legs
    → first_to subscriber source (enumerate_from i (drop i legs))
    ≡ (if ((get_or legs i d).subscriber == subscriber && (get_or legs i d).out_ssrc.0 == source) then Some i
    else first_to subscriber source (enumerate_from (i + 1) (drop (i + 1) legs)))
first_step subscriber source i legs d h = at_drop_more (λ (ls : List LegSettings). first_to subscriber source (enumerate_from i ls)) legs i d h

pub finds_one_more : (maps : List Sources) (m : Sources) (n : ℕ) (legs : List LegSettings) → FindsLegs maps n legs
    → ((source : ℕ) → get nat_eq m source ≡ first_to n source (enumerate_from 0 legs)) → FindsLegs (maps ++ m ∷ []) (n + 1) legs
finds_one_more maps m n legs before here =
    let size = before.size in
    let P : ℕ → Sources → Type 0 = λ k w. (source : ℕ) → get nat_eq w source ≡ first_to k source (enumerate_from 0 legs) in
    record {
      size = omega (arith, length-append maps (m ∷ []));
      each = at_push maps m P before.each (λ source. rw size (here source));
    }
