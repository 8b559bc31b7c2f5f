-- What a call changed in the announced set; and that an owner is announced once.
use Rattle.std.proofs.Common.{◌≡◌, ◌≢◌, ◌==◌, ℕ, zero, suc, ◌+◌, ◌<◌, ◌≤◌, eqb, not, Bool, cond, true, false, List, [], ◌∷◌, ◌++◌, length, get_or, map, take, drop, refl, sym, ap, ◌∙◌, subst, arith}
use Rattle.std.specs.Prelude.{All, ◌&&◌, AllPairs, Contains, filter, IsPermutation}
use Rattle.std.specs.List.{list_any, refill}
use Rattle.std.specs.List.Sorted.{IsNonDecreasingBy}
use Rattle.std.proofs.Math.Seq.{take-append_seam}
use Rattle.std.proofs.lemmas.Bool.{cond_both, false≢true}
use Rattle.std.proofs.lemmas.Bool.Decides.{Decides-eqb, nat_tests}
use Rattle.std.proofs.lemmas.List.{length-take, map-append, append-nil, get_or_default}
use Rattle.std.proofs.lemmas.List.Elements.{All-map, All-filter, All-contains, Contains-append_right, filter_more, filter_passes}
use Rattle.std.proofs.lemmas.List.Folds.{list_any_at, list_any_none}
use Rattle.std.proofs.lemmas.List.Kept.{AllPairs-cons, AllPairs-filter}
use Rattle.std.proofs.lemmas.List.Sorted.{IsPermutation-map, IsPermutation-sym, Contains-permutation}
use Rattle.std.proofs.lemmas.List.Sums.{length-filter, count_by-le-length}
use Rattle.std.proofs.lemmas.Map.Keys.{IsDistinct-IsPermutation}
use Rattle.std.proofs.lemmas.Map.Made.{AllPairs-from_IsDistinct, IsDistinct-from_AllPairs}
use borrow.Author.Tests.{eq-eqb, ne_eqb}
use Rattle.tmmbr_tuple.specs.declared.ssrc.Ssrc.{Ssrc}
use Rattle.rate_cert.specs.declared.request.Request.{Request}
use Rattle.rate_cert.specs.declared.certificate.Kept.{Kept}
use Rattle.rate_cert.specs.Choice.{IsChoice, chosen_requests}
use Rattle.rate_cert.specs.Certificate.{places_of}
use Rattle.rate_cert.proofs.ChoiceLemmas.{kept_below}
use Rattle.rate_cert.proofs.CheckerLemmas.{Contains-map, entry_at}
use Rattle.rate_cert.proofs.OwnerLemmas.{same_place}
use Rattle.rate_cert.proofs.Pigeonhole.{pairs_with_first, pairs_of_others}
use Rattle.bounding_set.specs.Rows.{HasRisingOwners}
use Rattle.bounding_set.specs.Kept.{KeepsRequests}
use Rattle.bounding_set.specs.State.{State, AnnouncesSmallest, announced_of}
use Rattle.bounding_set.proofs.KeptLemmas.{requests_by_place}
use Rattle.desk.specs.declared.effect.Effect.{Effect}
use Rattle.desk.specs.Effect.{IsEffect, IsLifted, owners_of, ssrcs_of, is_same, is_member}
use Rattle.tmmbr_tuple.specs.Tuple.{word_of}

-- ---- lists

-- what an `ArrayVec` has after its whole slice was written
pub refill-whole : {X : Type 0} (xs ys : List X) → length ys ≡ length xs → refill (length xs) xs ys ≡ ys
refill-whole xs ys same =
    ap (λ n. take n (ys ++ drop (length ys) xs)) (sym same) ∙ take-append_seam ys (drop (length ys) xs)

-- of the first i elements no more than i pass
pub length-passed : {X : Type 0} (p : X → Bool) (xs : List X) (i : ℕ) → length (filter p (take i xs)) ≤ i
length-passed p xs i = omega (arith, length-filter p (take i xs), count_by-le-length p (take i xs), length-take i xs)

pub AllPairs-map : {X Y : Type 0} (R : Y → Y → Type 0) (f : X → Y) (xs : List X) → AllPairs (λ x y. R (f x) (f y)) xs → AllPairs R (map f xs)
AllPairs-map R f [] all = λ i j d before below. absurd (omega (arith, below))
AllPairs-map {X} R f (x ∷ xs) all =
    let Pair : X → X → Type 0 = λ y z. R (f y) (f z) in
    AllPairs-cons R (f x) (map f xs) (All-map (R (f x)) f xs (pairs_with_first Pair x xs all)) (AllPairs-map R f xs (pairs_of_others Pair x xs all))

-- numbers that don't fall and differ rise
rise : (xs : List ℕ) → AllPairs (λ x y. x ≤ y) xs → AllPairs (λ x y. x ≢ y) xs → AllPairs (λ x y. x < y) xs
rise xs up apart i j d before below =
    let no_less : get_or xs i d ≤ get_or xs j d = up i j d before below in
    let differ : get_or xs i d ≢ get_or xs j d = apart i j d before below in
    omega arith

AllPairs-permutation : (xs ys : List ℕ) → IsPermutation xs ys → AllPairs (λ x y. x ≢ y) xs → AllPairs (λ x y. x ≢ y) ys
AllPairs-permutation xs ys moved apart =
    AllPairs-from_IsDistinct Decides-eqb ys
    (IsDistinct-IsPermutation eqb eqb_comm xs ys moved (IsDistinct-from_AllPairs Decides-eqb xs apart))
  where
    eqb_comm : (x y : ℕ) → eqb x y ≡ eqb y x
    eqb_comm x y = grind (arith, nat_tests)

-- ---- whose bounds are lifted

-- the requests whose owner has none in the new set
abbrev pub has_none : List Request → ℕ → Bool
has_none now owner = not (list_any (λ (r : Request). r.owner.0 == owner) now)

abbrev pub gone : List Request → List Request → List Request
gone former now = filter (λ (r : Request). has_none now r.owner.0) former

abbrev pub sources_of : List Request → List Ssrc
sources_of requests = map (λ (r : Request). r.owner) requests

-- one request more, whose owner has none in the new set, or has one
gone_step : (former now : List Request) (i : ℕ) (r : Request) (none : Bool) → i < length former → r ≡ get_or former i r
    → has_none now r.owner.0 ≡ none
    → sources_of (gone (take (i + 1) former) now) ≡ sources_of (gone (take i former) now) ++ sources_of (cond none (r ∷ []) [])
gone_step former now i r none below is same =
    let before = gone (take i former) now in
    let more : Request → List Request = λ e. cond (has_none now e.owner.0) (e ∷ []) [] in
    ap sources_of (filter_more (λ (e : Request). has_none now e.owner.0) former i r below)
    ∙ map-append (λ (e : Request). e.owner) before (more (get_or former i r))
    ∙ ap (λ e. sources_of before ++ sources_of (more e)) (sym is)
    ∙ ap (λ b. sources_of before ++ sources_of (cond b (r ∷ []) [])) same

pub gone_more : (former now : List Request) (i : ℕ) (r : Request) → i < length former → r ≡ get_or former i r
    → list_any (λ s. s.owner.0 == r.owner.0) now ≡ false
    → sources_of (gone (take (i + 1) former) now) ≡ sources_of (gone (take i former) now) ++ r.owner ∷ []
gone_more former now i r below is absent = gone_step former now i r true below is (ap not absent)

pub gone_same : (former now : List Request) (i : ℕ) (r : Request) → i < length former → r ≡ get_or former i r
    → list_any (λ s. s.owner.0 == r.owner.0) now ≡ true
    → sources_of (gone (take (i + 1) former) now) ≡ sources_of (gone (take i former) now)
gone_same former now i r below is present = gone_step former now i r false below is (ap not present) ∙ append-nil _

numbers_of-sources : (requests : List Request) → ssrcs_of (sources_of requests) ≡ owners_of requests
numbers_of-sources [] = refl
numbers_of-sources (r ∷ requests) = ap (λ owners. r.owner.0 ∷ owners) (numbers_of-sources requests)

absent_from_none : (now : List Request) (r : Request) → has_none now r.owner.0 ≡ true → ¬ Contains (owners_of now) r.owner.0
absent_from_none now r none has =
    let at = entry_at (λ (s : Request). s.owner.0) now r r.owner.0 has in
    let found = list_any_at (λ (s : Request). s.owner.0 == r.owner.0) now at.0 r at.1 (eq-eqb _ _ at.2) in
    false≢true (sym (ap not found) ∙ none)

none_from_absent : (now : List Request) (owner : ℕ) → ¬ Contains (owners_of now) owner → has_none now owner ≡ true
none_from_absent now owner absent =
    ap not (list_any_none (λ (s : Request). s.owner.0 == owner) now
    (λ i d below. ne_eqb _ _ (λ same. absent (subst (Contains (owners_of now)) same (Contains-map (λ (s : Request). s.owner.0) now i d below)))))

-- an owner of a request that is gone
gone_from : (former now : List Request) (owner : ℕ) → Contains (owners_of (gone former now)) owner
    → Contains (owners_of former) owner × ¬ Contains (owners_of now) owner
gone_from former now owner =
    All-contains Lifted (owners_of (gone former now)) owner
    (All-map Lifted (λ (r : Request). r.owner.0) (gone former now)
    (λ i d below. (
      All-filter passes (λ r. Contains (owners_of former) r.owner.0) former (λ k e inside. Contains-map (λ (r : Request). r.owner.0) former k e inside) i d below,
      absent_from_none now (get_or (gone former now) i d) (filter_passes passes former i d below),
    )))
  where
    passes : Request → Bool
    passes r = has_none now r.owner.0

    Lifted : ℕ → Type 0
    Lifted o = Contains (owners_of former) o × ¬ Contains (owners_of now) o

gone_at : (former now : List Request) (owner place : ℕ) → has_none now owner ≡ true → place < length (owners_of former)
    → get_or (owners_of former) place owner ≡ owner → Contains (owners_of (gone former now)) owner
gone_at [] now owner place none below is = absurd (omega (arith, below))
gone_at (r ∷ former) now owner zero none below is =
    cond_both (has_none now r.owner.0) (r ∷ gone former now) (gone former now) (λ rs. Contains (owners_of rs) owner)
    (λ passes. (0, omega arith, is))
    (λ fails. absurd (false≢true (sym fails ∙ ap (has_none now) is ∙ none)))
gone_at (r ∷ former) now owner (suc place) none below is =
    let rest = gone_at former now owner place none (omega arith) is in
    cond_both (has_none now r.owner.0) (r ∷ gone former now) (gone former now) (λ rs. Contains (owners_of rs) owner)
    (λ passes. Contains-append_right (r.owner.0 ∷ []) (owners_of (gone former now)) owner rest)
    (λ fails. rest)

-- the owners of what is gone, sorted
pub IsLifted-sorted : (former now : List Request) (before after : List Ssrc) → AllPairs (λ x y. x.owner.0 ≢ y.owner.0) former
    → before ≡ sources_of (gone former now) → IsPermutation before after → IsNonDecreasingBy (λ s. s.0) after
    → IsLifted former now (ssrcs_of after)
IsLifted-sorted former now before after once is moved up =
    let owners = owners_of (gone former now) in
    let sorted : IsPermutation owners (ssrcs_of after) =
    subst (λ ns. IsPermutation ns (ssrcs_of after)) (ap ssrcs_of is ∙ numbers_of-sources (gone former now))
    (IsPermutation-map (λ (s : Ssrc). s.0) before after moved) in
    let apart : AllPairs (λ x y. x ≢ y) owners =
    AllPairs-map (λ x y. x ≢ y) (λ (r : Request). r.owner.0) (gone former now)
    (AllPairs-filter (λ x y. x.owner.0 ≢ y.owner.0) (λ r. has_none now r.owner.0) former once) in
    record {
      rising = rise (ssrcs_of after)
          (AllPairs-map (λ x y. x ≤ y) (λ (s : Ssrc). s.0) after (λ i j d earlier below. up i j d (omega arith) below))
          (AllPairs-permutation owners (ssrcs_of after) sorted apart);
      members = λ owner. (
        λ has. gone_from former now owner (Contains-permutation (ssrcs_of after) owners owner (IsPermutation-sym owners (ssrcs_of after) sorted) has),
        λ lifted. let at = lifted.0 in
            Contains-permutation owners (ssrcs_of after) owner sorted
            (gone_at former now owner at.0 (none_from_absent now owner lifted.1) at.1 at.2),
      );
    }

-- ---- an owner is announced once

-- chosen rows of rising owners have owners that differ
pub chosen_once : (rows : List Request) (kept : List Kept) → HasRisingOwners rows → IsChoice rows (places_of kept)
    → AllPairs (λ x y. x.owner.0 ≢ y.owner.0) (chosen_requests rows (places_of kept))
chosen_once rows kept rising choice i j d before below =
    let places = places_of kept in
    let is : KeepsRequests rows (chosen_requests rows places) kept = record { in_range = kept_below rows kept choice; in_turn = refl } in
    subst (AllPairs Differ) (sym (requests_by_place rows (chosen_requests rows places) kept is d))
    (AllPairs-map Differ (λ place. get_or rows place d) places
    (λ a b e earlier inside same. choice.distinct a b e earlier inside
    (same_place (λ (r : Request). r.owner.0) rows _ _ d rising (choice.in_range a e (omega arith)) (choice.in_range b e inside) same)))
    i j d before below
  where
    Differ : Request → Request → Type 0
    Differ x y = x.owner.0 ≢ y.owner.0

pub announced_once : (s : State) → HasRisingOwners s.rows → AnnouncesSmallest s → AllPairs (λ x y. x.owner.0 ≢ y.owner.0) (announced_of s)
announced_once s rising is = chosen_once s.rows s.cert.kept.items rising is.canonical.choice

-- ---- nothing changed

is_same-itself : (r : Request) → is_same r r ≡ true
is_same-itself r = both (eq-eqb r.owner.0 r.owner.0 refl) (eq-eqb (word_of r.tuple) (word_of r.tuple) refl)
  where
    both : {a b : Bool} → a ≡ true → b ≡ true → (a && b) ≡ true
    both {a} {b} x y = ap (λ c. c && b) x ∙ y

none_passes : (p : Request → Bool) (xs : List Request) → All (λ r. p r ≡ false) xs → filter p xs ≡ []
none_passes p [] none = refl
none_passes p (x ∷ xs) none =
    ap (λ b. cond b (x ∷ filter p xs) (filter p xs)) (none 0 x (omega arith)) ∙ none_passes p xs (λ k d below. none (suc k) d (omega arith))

-- what is announced as before lifts nothing, and none of it is fresh
pub IsEffect-same : (now : List Request) (e : Effect) → e.set.items ≡ now → e.lifted.items ≡ [] → e.fresh.items ≡ [] → IsEffect now now e
IsEffect-same now e set lifted fresh = record {
  announced = set;
  lifted = subst (λ owners. IsLifted now now (ssrcs_of owners)) (sym lifted) (record {
    rising = λ i j d before below. absurd (omega (arith, below));
    members = λ owner. (λ has. absurd (omega (arith, has.1)), λ gone. absurd (gone.1 gone.0));
  });
  fresh = fresh
      ∙ sym (none_passes (λ r. not (is_member now r)) now
      (λ k d below. ap not (list_any_at (is_same (get_or now k d)) now k (get_or now k d) below
      (ap (is_same (get_or now k d)) (get_or_default now k _ d below) ∙ is_same-itself (get_or now k d)))));
}
