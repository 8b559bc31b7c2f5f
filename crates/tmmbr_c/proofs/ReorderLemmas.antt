-- What is announced for requests in one order is announced for them in another, by the places there.
use Rattle.std.proofs.Common.{◌≡◌, ℕ, ◌-◌, ◌<◌, ◌≤◌, ◌↔◌, List, [], ◌∷◌, ◌++◌, length, get_or, map, true, false, if◌then◌else◌, Some, refl, sym, ap, ◌∙◌, subst, inl, inr, lit<, arith}
use Rattle.std.specs.Prelude.{All, Any, Contains, nat_lt, nat_le, slice_get}
use Rattle.std.specs.List.{HoldsAt, cons_option}
use Rattle.std.proofs.lemmas.List.{length-map, get_or-map, map-append}
use Rattle.std.proofs.lemmas.List.Elements.{All-head, All-tail, All-map}
use Rattle.std.proofs.lemmas.Option.{slice_get-get_or}
use Rattle.tmmbr_tuple.specs.RatePair.{Permits, Forbids, pair_of}
use Rattle.rate_cert.specs.declared.request.Request.{Request}
use Rattle.rate_cert.specs.declared.certificate.Kept.{Kept}
use Rattle.rate_cert.specs.declared.certificate.Implied.{Implied}
use Rattle.rate_cert.specs.declared.certificate.Cert.{Cert}
use Rattle.rate_cert.specs.Choice.{IsChoice, chosen_requests}
use Rattle.rate_cert.specs.Certificate.{MeetsConditions, HasNeighbours, ForbidsItsPair, ForbidsOnePair, ForbidsOnePairAt, IsImplied, IsInRange, Implies, named_places, places_of}
use Rattle.rate_cert.proofs.CheckerLemmas.{Contains-map, entry_at, kept_in_range, implied_in_range}
use Rattle.rate_cert.proofs.Smallest.{IsSmallest-from_MeetsConditions}
use Rattle.bounding_set.specs.Canonical.{HasSameLine, StopsMedia, StopsEverything, ReachesNoFarther, ReachesAsFar, IsAnnounced, IsCanonical}
use Rattle.bounding_set.specs.Certificate.{Listed, kept_pairs, implied_above, implied_by, dropped_places}
use Rattle.bounding_set.specs.State.{AnnouncesFor}
use Rattle.bounding_set.specs.Kept.{pairs_of, listed_of, listed_at}
use Rattle.tmmbr_c.specs.Renumbering.{AnnouncesEntries, Reorders, moved_kept, moved_implied}

-- some request
a_request : Request
a_request = record {
  owner = record { 0 = 0 };
  tuple = record {
    exp = 0;
    mantissa = 0;
    overhead = 0;
    exp_in_range = lit< tt;
    mantissa_in_range = lit< tt;
    overhead_in_range = lit< tt;
  };
}

-- ---- which requests are announced doesn't depend on their order

module _ (xs ys : List Request) (all : (P : Request → Type 0) → All P xs → All P ys) (any : (P : Request → Type 0) → Any P xs → Any P ys) where
  announced_along : (x : Request) → IsAnnounced xs x → IsAnnounced ys x
  announced_along x (inl s) = inl (record {
    stops = s.stops;
    greatest = all (λ y. StopsEverything y → y.tuple.overhead ≤ x.tuple.overhead) s.greatest;
    least_owner = all (λ y. StopsEverything y → x.tuple.overhead ≡ y.tuple.overhead → x.owner.0 ≤ y.owner.0) s.least_owner;
  })
  announced_along x (inr (inl s)) =
      inr (inl (record {
        stops = s.stops;
        none_stops_everything = all (λ y. ¬ StopsEverything y) s.none_stops_everything;
        least_owner = all (λ y. StopsMedia y → x.owner.0 ≤ y.owner.0) s.least_owner;
      }))
  announced_along x (inr (inr (inl s))) =
      inr (inr (inl (record {
        media_stopped = any StopsMedia s.media_stopped;
        none_stops_everything = all (λ y. ¬ StopsEverything y) s.none_stops_everything;
        has_overhead = s.has_overhead;
        least = all (λ y. 0 < y.tuple.overhead → ReachesNoFarther x y) s.least;
        least_overhead = all (λ y. 0 < y.tuple.overhead → ReachesAsFar x y → x.tuple.overhead ≤ y.tuple.overhead) s.least_overhead;
        least_owner =
            all (λ y. 0 < y.tuple.overhead → ReachesAsFar x y → x.tuple.overhead ≡ y.tuple.overhead → x.owner.0 ≤ y.owner.0) s.least_owner;
      })))
  announced_along x (inr (inr (inr s))) =
      let e = s.essential in
      inr (inr (inr (record {
        none_stopped = all (λ y. ¬ StopsMedia y) s.none_stopped;
        essential = record {
          pair = e.pair;
          some_time = e.some_time;
          forbidden = e.forbidden;
          permitted = all (λ y. ¬ HasSameLine x y → Permits y.tuple e.pair) e.permitted;
        };
        least_owner = all (λ y. HasSameLine x y → x.owner.0 ≤ y.owner.0) s.least_owner;
      })))

module _ (xs rows : List Request) (at : ℕ → ℕ) (is : Reorders xs rows at) where
  -- ---- what holds of the one list holds of the other

  at_row : (P : Request → Type 0) (k : ℕ) → k < length rows → HoldsAt P rows k → HoldsAt P xs (at k)
  at_row P k below holds = λ d. subst P (sym (is.same k d below)) (holds d)

  at_request : (P : Request → Type 0) (k : ℕ) → k < length rows → HoldsAt P xs (at k) → HoldsAt P rows k
  at_request P k below holds = λ d. subst P (is.same k d below) (holds d)

  all_requests : (P : Request → Type 0) → All P rows → All P xs
  all_requests P all = λ place d below.
      let row = is.onto place below in
      subst (λ p. P (get_or xs p d)) row.2 (at_row P row.0 row.1 (λ e. all row.0 e row.1) d)

  all_rows : (P : Request → Type 0) → All P xs → All P rows
  all_rows P all = λ k d below. at_request P k below (λ e. all (at k) e (is.in_range k below)) d

  any_request : (P : Request → Type 0) → Any P rows → Any P xs
  any_request P (k, x, below, there, holds) = (at k, x, is.in_range k below, is.same k x below ∙ there, holds)

  any_row : (P : Request → Type 0) → Any P xs → Any P rows
  any_row P (place, x, below, there, holds) =
      let row = is.onto place below in
      (row.0, x, row.1, sym (is.same row.0 x row.1) ∙ ap (λ p. get_or xs p x) row.2 ∙ there, holds)

  -- ---- places

  contains_moved : (places : List ℕ) (k : ℕ) → Contains places k → Contains (map at places) (at k)
  contains_moved places k has = subst (λ x. Contains (map at places) (at x)) has.2 (Contains-map at places has.0 k has.1)

  contains_back : (places : List ℕ) (k : ℕ) → All (λ p. p < length rows) places → k < length rows → Contains (map at places) (at k)
      → Contains places k
  contains_back places k in_range below has =
      let found = entry_at at places k (at k) has in
      let same : get_or places found.0 k ≡ k = is.apart (get_or places found.0 k) k (in_range found.0 k found.1) below found.2 in
      (found.0, found.1, same)

  choice_moved : (places : List ℕ) → IsChoice rows places → IsChoice xs (map at places)
  choice_moved places choice = record {
    in_range = All-map (λ p. p < length xs) at places (λ k d below. is.in_range (get_or places k d) (choice.in_range k d below));
    distinct = λ i j d before below same.
        let long : j < length places = omega (arith, length-map places at) in
        let short : i < length places = omega arith in
        choice.distinct i j d before long
        (is.apart (get_or places i d) (get_or places j d) (choice.in_range i d short) (choice.in_range j d long)
        (sym (get_or-map at places i d d short) ∙ same ∙ get_or-map at places j d d long));
  }

  chosen_moved : (places : List ℕ) → All (λ p. p < length rows) places → chosen_requests xs (map at places) ≡ chosen_requests rows places
  chosen_moved [] in_range = refl
  chosen_moved (p ∷ places) in_range =
      let InRange : ℕ → Type 0 = λ p. p < length rows in
      let below = All-head InRange p places in_range in
      ap (λ o. cons_option o (chosen_requests xs (map at places)))
      (slice_get-get_or xs (at p) a_request (is.in_range p below) ∙ ap (λ r. Some r) (is.same p a_request below)
      ∙ sym (slice_get-get_or rows p a_request below))
      ∙ ap (cons_option (slice_get rows p)) (chosen_moved places (All-tail InRange p places in_range))

  places-moved : (kept : List Kept) → places_of (map (moved_kept at) kept) ≡ map at (places_of kept)
  places-moved [] = refl
  places-moved (k ∷ kept) = ap (λ ps. at k.place ∷ ps) (places-moved kept)

  implied_places-moved : (implied : List Implied) → map (λ i. i.place) (map (moved_implied at) implied) ≡ map at (map (λ i. i.place) implied)
  implied_places-moved [] = refl
  implied_places-moved (i ∷ implied) = ap (λ ps. at i.place ∷ ps) (implied_places-moved implied)

  named-moved : (kept : List Kept) (implied : List Implied)
      → named_places (map (moved_kept at) kept) (map (moved_implied at) implied) ≡ map at (named_places kept implied)
  named-moved kept implied =
      ap (λ ps. ps ++ map (λ i. i.place) (map (moved_implied at) implied)) (places-moved kept)
      ∙ ap (λ ps. map at (places_of kept) ++ ps) (implied_places-moved implied)
      ∙ sym (map-append at (places_of kept) (map (λ i. i.place) implied))

  -- ---- a certificate

  forbids_one_moved : (kept : List Kept) (r : Request) → ForbidsOnePair kept r → ForbidsOnePair (map (moved_kept at) kept) r
  forbids_one_moved kept r one = λ i j d before below of_i of_j.
      let long : j < length kept = omega (arith, length-map kept (moved_kept at)) in
      let short : i < length kept = omega arith in
      let at_i = get_or-map (moved_kept at) kept i d d short in
      let at_j = get_or-map (moved_kept at) kept j d d long in
      one i j d before long (subst (λ k. Forbids r.tuple (pair_of k.pair)) at_i of_i) (subst (λ k. Forbids r.tuple (pair_of k.pair)) at_j of_j)

  implied_moved : (i : Implied) → IsInRange rows i → IsImplied rows i → IsImplied xs (moved_implied at i)
  implied_moved i within implied = λ d.
      let a = is.same i.a d within.a in
      let b = is.same i.b d within.b in
      let r = is.same i.place d within.place in
      let given = implied d in
      subst (λ x. Implies x (get_or xs (at i.b) d) (get_or xs (at i.place) d) (moved_implied at i)) (sym a)
      (subst (λ x. Implies (get_or rows i.a d) x (get_or xs (at i.place) d) (moved_implied at i)) (sym b)
      (subst (λ x. Implies (get_or rows i.a d) (get_or rows i.b d) x (moved_implied at i)) (sym r)
      (record { some = given.some; media = given.media; headers = given.headers; rate = given.rate })))

  module _ (kept : List Kept) (implied : List Implied) (meets : MeetsConditions rows kept implied) where
    kept_below : All (λ k. k.place < length rows) kept
    kept_below = kept_in_range rows kept implied meets.places

    implied_below : All (IsInRange rows) implied
    implied_below = implied_in_range rows kept implied meets.places

    neighbours_moved : (i : Implied) → HasNeighbours (places_of kept) i → HasNeighbours (places_of (map (moved_kept at) kept)) (moved_implied at i)
    neighbours_moved i has =
        let places = sym (places-moved kept) in (
          subst (λ ps. Contains ps (at i.a)) places (contains_moved (places_of kept) i.a has.0),
          subst (λ ps. Contains ps (at i.b)) places (contains_moved (places_of kept) i.b has.1),
        )

    meets_moved : MeetsConditions xs (map (moved_kept at) kept) (map (moved_implied at) implied)
    meets_moved = record {
      places = record {
        named = subst (IsChoice xs) (sym (named-moved kept implied)) (choice_moved (named_places kept implied) meets.places.named);
        neighbours = All-map (HasNeighbours (places_of (map (moved_kept at) kept))) (moved_implied at) implied
            (λ k d below. neighbours_moved (get_or implied k d) (meets.places.neighbours k d below));
      };
      forbidden = All-map (ForbidsItsPair xs) (moved_kept at) kept
          (λ k d below.
          let entry = get_or kept k d in
          at_row (λ r. Forbids r.tuple (pair_of entry.pair)) entry.place (kept_below k d below) (meets.forbidden k d below));
      one_each = λ place below.
          let row = is.onto place below in
          subst (ForbidsOnePairAt xs (map (moved_kept at) kept)) row.2
          (at_row (ForbidsOnePair (map (moved_kept at) kept)) row.0 row.1 (λ d. forbids_one_moved kept (get_or rows row.0 d) (meets.one_each row.0 row.1 d)));
      implications = λ place below.
          let row = is.onto place below in
          All-map (λ i. i.place ≡ place → IsImplied xs i) (moved_implied at) implied
          (λ k d in_list same.
          let entry = get_or implied k d in
          let within = implied_below k d in_list in
          let there : entry.place ≡ row.0 = is.apart entry.place row.0 within.place row.1 (same ∙ sym row.2) in
          implied_moved entry within (meets.implications row.0 row.1 k d in_list there));
      complete = λ place below.
          let row = is.onto place below in
          subst (λ ps. Contains ps place) (sym (named-moved kept implied))
          (subst (Contains (map at (named_places kept implied))) row.2 (contains_moved (named_places kept implied) row.0 (meets.complete row.0 row.1)));
    }

  -- ---- the canonical choice

  canonical_moved : (places : List ℕ) → IsCanonical rows places → IsCanonical xs (map at places)
  canonical_moved places canonical =
      let in_range = canonical.choice.in_range in
      record {
        choice = choice_moved places canonical.choice;
        rising = λ d i j e before below.
            let Less : Request → Request → Type 0 = λ x y. x.tuple.overhead < y.tuple.overhead in
            let long : j < length places = omega (arith, length-map places at) in
            let short : i < length places = omega arith in
            let p = get_or places i e in
            let q = get_or places j e in
            subst (λ n. Less (get_or xs n d) (get_or xs (get_or (map at places) j e) d)) (sym (get_or-map at places i e e short))
            (subst (λ n. Less (get_or xs (at p) d) (get_or xs n d)) (sym (get_or-map at places j e e long))
            (subst (λ x. Less x (get_or xs (at q) d)) (sym (is.same p d (in_range i e short)))
            (subst (Less (get_or rows p d)) (sym (is.same q d (in_range j e long))) (canonical.rising d i j e before long))));
        announced = λ place below.
            let row = is.onto place below in
            let iff = canonical.announced row.0 row.1 in
            subst (λ p. Contains (map at places) p ↔ HoldsAt (IsAnnounced xs) xs p) row.2 (
              λ has d. at_row (IsAnnounced xs) row.0 row.1
                  (λ e. announced_along rows xs all_requests any_request (get_or rows row.0 e) (iff.0 (contains_back places row.0 in_range row.1 has) e)) d,
              λ holds. contains_moved places row.0
                  (iff.1 (λ e. announced_along xs rows all_rows any_row (get_or rows row.0 e) (at_request (IsAnnounced xs) row.0 row.1 holds e))),
            );
      }

  -- ---- how the others follow

  abbrev moved_listed : Listed → Listed
  moved_listed l = record { place = at l.place; overhead = l.overhead }

  implied_above_moved : (place overhead : ℕ) (a : Listed) (bs : List Listed)
      → moved_implied at (implied_above place overhead a bs) ≡ implied_above (at place) overhead (moved_listed a) (map moved_listed bs)
  implied_above_moved place overhead a [] = refl
  implied_above_moved place overhead a (b ∷ bs) =
      elim (nat_lt overhead b.overhead) as (λ t.
      moved_implied at (if t then record {
        place = place;
        a = a.place;
        b = b.place;
        p = b.overhead - overhead;
        q = overhead - a.overhead;
        r = b.overhead - a.overhead;
      } else implied_above place overhead b bs)
      ≡ (if t then record {
        place = at place;
        a = at a.place;
        b = at b.place;
        p = b.overhead - overhead;
        q = overhead - a.overhead;
        r = b.overhead - a.overhead;
      } else implied_above (at place) overhead (moved_listed b) (map moved_listed bs))) [
        | true ↦ refl
        | false ↦ implied_above_moved place overhead b bs
      ]

  implied_by_moved : (place overhead : ℕ) (first : Listed) (others : List Listed)
      → moved_implied at (implied_by (first ∷ others) place overhead)
      ≡ implied_by (moved_listed first ∷ map moved_listed others) (at place) overhead
  implied_by_moved place overhead first others =
      elim (nat_le overhead first.overhead) as (λ t.
      moved_implied at (if t then record { place = place; a = first.place; b = first.place; p = 1; q = 0; r = 1 }
      else implied_above place overhead first others)
      ≡ (if t then record { place = at place; a = at first.place; b = at first.place; p = 1; q = 0; r = 1 }
      else implied_above (at place) overhead (moved_listed first) (map moved_listed others))) [
        | true ↦ refl
        | false ↦ implied_above_moved place overhead first others
      ]

  listed_moved : (d : Request) (kept : List Kept) → All (λ k. k.place < length rows) kept
      → map moved_listed (listed_of rows d kept) ≡ listed_of xs d (map (moved_kept at) kept)
  listed_moved d [] in_range = refl
  listed_moved d (k ∷ kept) in_range =
      let InRange : Kept → Type 0 = λ k. k.place < length rows in
      let there = is.same k.place d (All-head InRange k kept in_range) in
      ap (λ x. let l : Listed = record { place = at k.place; overhead = x.tuple.overhead } in l ∷ map moved_listed (listed_of rows d kept)) (sym there)
      ∙ ap (λ ls. listed_at xs d (at k.place) ∷ ls) (listed_moved d kept (All-tail InRange k kept in_range))

  -- an entry that follows from kept ones, once there are any
  follows_moved : (d : Request) (kept : List Kept) (i : Implied) → All (λ k. k.place < length rows) kept → i.place < length rows
      → HasNeighbours (places_of kept) i
      → i ≡ implied_by (listed_of rows d kept) i.place (get_or rows i.place d).tuple.overhead
      → moved_implied at i
      ≡ implied_by (listed_of xs d (map (moved_kept at) kept)) (at i.place) (get_or xs (at i.place) d).tuple.overhead
  follows_moved d [] i in_range below has follows = absurd (omega (arith, has.0.1))
  follows_moved d (k ∷ kept) i in_range below has follows =
      let h = (get_or rows i.place d).tuple.overhead in
      ap (moved_implied at) follows
      ∙ implied_by_moved i.place h (listed_at rows d k.place) (listed_of rows d kept)
      ∙ ap (λ ls. implied_by ls (at i.place) h) (listed_moved d (k ∷ kept) in_range)
      ∙ ap (λ x. implied_by (listed_of xs d (map (moved_kept at) (k ∷ kept))) (at i.place) x.tuple.overhead) (sym (is.same i.place d below))

  pairs-moved : (kept : List Kept) → pairs_of (map (moved_kept at) kept) ≡ pairs_of kept
  pairs-moved [] = refl
  pairs-moved (k ∷ kept) = ap (λ ps. pair_of k.pair ∷ ps) (pairs-moved kept)

-- each entry that is given for a place says how the request there follows
implied_above-place : (place overhead : ℕ) (a : Listed) (bs : List Listed) → (implied_above place overhead a bs).place ≡ place
implied_above-place place overhead a [] = refl
implied_above-place place overhead a (b ∷ bs) =
    elim (nat_lt overhead b.overhead) as (λ t. (if t then record {
      place = place;
      a = a.place;
      b = b.place;
      p = b.overhead - overhead;
      q = overhead - a.overhead;
      r = b.overhead - a.overhead;
    } else implied_above place overhead b bs).place ≡ place) [ true ↦ refl | false ↦ implied_above-place place overhead b bs ]

implied_by-place : (listed : List Listed) (place overhead : ℕ) → (implied_by listed place overhead).place ≡ place
implied_by-place [] place overhead = refl
implied_by-place (first ∷ others) place overhead =
    elim (nat_le overhead first.overhead) as (λ t.
    (if t then record { place = place; a = first.place; b = first.place; p = 1; q = 0; r = 1 }
    else implied_above place overhead first others).place ≡ place) [ true ↦ refl | false ↦ implied_above-place place overhead first others ]

given_each : (rows : List Request) (d : Request) (listed : List Listed) (places : List ℕ)
    → All (λ i. i ≡ implied_by listed i.place (get_or rows i.place d).tuple.overhead)
    (map (λ place. implied_by listed place (get_or rows place d).tuple.overhead) places)
given_each rows d listed places =
    All-map (λ i. i ≡ implied_by listed i.place (get_or rows i.place d).tuple.overhead)
    (λ place. implied_by listed place (get_or rows place d).tuple.overhead) places
    (λ k e below.
    let place = get_or places k e in
    ap (λ p. implied_by listed p (get_or rows p d).tuple.overhead) (sym (implied_by-place listed place (get_or rows place d).tuple.overhead)))

-- what is announced for the requests in one order, with the places of another
pub announced-reordered : (xs rows : List Request) (at : ℕ → ℕ) (cert : Cert) → Reorders xs rows at → AnnouncesFor rows cert
    → AnnouncesEntries xs (map (moved_kept at) cert.kept.items) (map (moved_implied at) cert.implied.items)
announced-reordered xs rows at cert is announces =
    let kept = cert.kept.items in
    let implied = cert.implied.items in
    let certified : MeetsConditions rows kept implied = announces.certified in
    let meets = meets_moved xs rows at is kept implied certified in
    let places = places-moved xs rows at is kept in
    let below = kept_in_range rows kept implied certified.places in
    record {
      canonical = subst (IsCanonical xs) (sym places) (canonical_moved xs rows at is (places_of kept) announces.canonical);
      smallest = IsSmallest-from_MeetsConditions xs (map (moved_kept at) kept) (map (moved_implied at) implied) meets;
      certified = meets;
      pairs = pairs-moved xs rows at is kept
          ∙ announces.given.pairs
          ∙ ap kept_pairs (sym (chosen_moved xs rows at is (places_of kept) announces.canonical.choice.in_range) ∙ ap (chosen_requests xs) (sym places));
      neighbours = λ d.
          let Follows : Implied → Type 0 = λ i. i ≡ implied_by (listed_of rows d kept) i.place (get_or rows i.place d).tuple.overhead in
          let each : All Follows implied =
          subst (All Follows) (sym (announces.given.implied d))
          (given_each rows d (listed_of rows d kept) (dropped_places (length rows) (places_of kept))) in
          All-map (λ i. i ≡ implied_by (listed_of xs d (map (moved_kept at) kept)) i.place (get_or xs i.place d).tuple.overhead)
          (moved_implied at) implied
          (λ k e in_list.
          let i = get_or implied k e in
          follows_moved xs rows at is d kept i below (implied_in_range rows kept implied certified.places k e in_list).place
          (certified.places.neighbours k e in_list) (each k e in_list));
    }
