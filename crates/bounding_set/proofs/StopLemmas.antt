-- What is announced if a request has the rate 0: the strictest stop, or the first stop, alone or with the
-- request of least reach.
use Rattle.std.proofs.Common.{◌≡◌, ℕ, zero, suc, ◌<◌, ◌≤◌, ◌⊎◌, inl, inr, List, [], ◌∷◌, get_or, refl, sym, ap, subst, arith, if◌then◌else◌}
use Rattle.std.specs.Prelude.{All, Any, AllPairs, Contains}
use Rattle.std.proofs.lemmas.Bool.{cases_lt, eq-eqb}
use Rattle.std.proofs.lemmas.List.Elements.{All-nil, All-cons, All-contains, Contains-get_or}
use Rattle.tmmbr_tuple.specs.Tuple.{rate_of}
use Rattle.tmmbr_tuple.specs.RatePair.{RatePair, Forbids}
use Rattle.rate_cert.specs.declared.request.Request.{Request}
use Rattle.rate_cert.proofs.OwnerLemmas.{one_row}
use Rattle.bounding_set.specs.Rows.{HasRisingOwners}
use Rattle.bounding_set.specs.Canonical.{StopsMedia, StopsEverything, IsStrictestStop, IsFirstStop, ReachesNoFarther, ReachesAsFar, IsLeastReach, IsAnnounced}
use Rattle.bounding_set.specs.Certificate.{start_end, reach_of, pair_between, kept_pairs, pairs_from, pairs_with_stop}
use Rattle.bounding_set.specs.Announced.{Follows, IsCovered, HasPairs, AnnouncesList}
use Rattle.bounding_set.proofs.RowLemmas.{row_owner}

-- a row of a list of one, and of a list of two
only_one : (x r : Request) → Contains (x ∷ []) r → x ≡ r
only_one x r (zero, below, is) = is
only_one x r (suc k, below, is) = absurd (omega arith)

one_of_two : (x y r : Request) → Contains (x ∷ y ∷ []) r → (x ≡ r) ⊎ (y ≡ r)
one_of_two x y r (zero, below, is) = inl is
one_of_two x y r (suc zero, below, is) = inr is
one_of_two x y r (suc (suc k), below, is) = absurd (omega arith)

-- the pair of a stop that is kept alone, one bit above its line
module _ (rows : List Request) (x : Request) (stops : StopsMedia x) where
  forbids_alone : Forbids x.tuple (pair_between x start_end (reach_of x))
  forbids_alone = rw stops (omega arith)

  forbids_its_pair : (j : ℕ) (d : Request) (p : RatePair) → j < 1 → Forbids (get_or (x ∷ []) j d).tuple (get_or (kept_pairs (x ∷ [])) j p)
  forbids_its_pair zero d p below = forbids_alone
  forbids_its_pair (suc j) d p below = absurd (omega arith)

  pub HasPairs-stop : HasPairs rows (x ∷ []) (kept_pairs (x ∷ []))
  HasPairs-stop = record {
    as_many = refl;
    forbidden = forbids_its_pair;
    one_each = λ j k p before below. absurd (omega arith);
  }

-- a stop that is kept alone covers what has no more overhead than it, and if it has some, all else
covered_alone : (x y : Request) → StopsMedia x → (x.tuple.overhead < y.tuple.overhead → 0 < x.tuple.overhead) → IsCovered (x ∷ []) y
covered_alone x y stops some = (
  λ no_more. rw stops (omega arith),
  λ more. (some more, rw stops (omega arith)),
)

-- a request that stops everything
module _ (rows : List Request) (rising : HasRisingOwners rows) (x : Request) (at_x : Contains rows x) (strictest : IsStrictestStop rows x) where
  some_stops : All (λ y. ¬ StopsEverything y) rows → ⊥
  some_stops none = All-contains (λ y. ¬ StopsEverything y) rows x none at_x strictest.stops

  -- another one is the same row
  strictest_one : (r : Request) → Contains rows r → IsStrictestStop rows r → x ≡ r
  strictest_one r at_r is =
      let more = All-contains (λ y. StopsEverything y → y.tuple.overhead ≤ x.tuple.overhead) rows r strictest.greatest at_r is.stops in
      let less = All-contains (λ y. StopsEverything y → y.tuple.overhead ≤ r.tuple.overhead) rows x is.greatest at_x strictest.stops in
      let same : x.tuple.overhead ≡ r.tuple.overhead = omega arith in
      let first = All-contains (λ y. StopsEverything y → x.tuple.overhead ≡ y.tuple.overhead → x.owner.0 ≤ y.owner.0) rows r strictest.least_owner at_r is.stops same in
      let last = All-contains (λ y. StopsEverything y → r.tuple.overhead ≡ y.tuple.overhead → r.owner.0 ≤ y.owner.0) rows x is.least_owner at_x strictest.stops (sym same) in
      one_row row_owner rows rising x r at_x at_r (omega arith)

  strictest_only : (r : Request) → Contains rows r → IsAnnounced rows r → x ≡ r
  strictest_only r at_r announced =
      elim announced [
        | inl is ↦ strictest_one r at_r is
        | inr others ↦
            elim others [
              | inl first ↦ absurd (some_stops first.none_stops_everything)
              | inr rest ↦
                  elim rest [
                    | inl reach ↦ absurd (some_stops reach.none_stops_everything)
                    | inr owner ↦ absurd (All-contains (λ y. ¬ StopsMedia y) rows x owner.none_stopped at_x strictest.stops.0)
                  ]
            ]
      ]

  pub AnnouncesList-strictest : AnnouncesList rows (x ∷ [])
  AnnouncesList-strictest = record {
    are_rows = All-cons (Contains rows) x [] at_x (All-nil (Contains rows));
    in_order = λ i j d before below. absurd (omega arith);
    announced = λ r at_r. (
      λ has. subst (IsAnnounced rows) (only_one x r has) (inl strictest),
      λ is. (0, omega arith, strictest_only r at_r is),
    );
    pairs = HasPairs-stop rows x strictest.stops.0;
    covered = λ k d below. covered_alone x (get_or rows k d) strictest.stops.0 (λ _. strictest.stops.1);
  }

-- a request that stops the media, if none stops everything
module _ (rows : List Request) (rising : HasRisingOwners rows) (x : Request) (at_x : Contains rows x) (first : IsFirstStop rows x) where
  -- who stops the media has no overhead
  pub no_overhead : (r : Request) → Contains rows r → StopsMedia r → r.tuple.overhead ≡ 0
  no_overhead r at_r media =
      elim (cases_lt 0 r.tuple.overhead) [
        | inl some ↦ absurd (All-contains (λ y. ¬ StopsEverything y) rows r first.none_stops_everything at_r (media, some))
        | inr none ↦ omega arith
      ]

  first_one : (r : Request) → Contains rows r → IsFirstStop rows r → x ≡ r
  first_one r at_r is =
      let before = All-contains (λ y. StopsMedia y → x.owner.0 ≤ y.owner.0) rows r first.least_owner at_r is.stops in
      let after = All-contains (λ y. StopsMedia y → r.owner.0 ≤ y.owner.0) rows x is.least_owner at_x first.stops in
      one_row row_owner rows rising x r at_x at_r (omega arith)

  -- what is announced then is it, or a request of least reach
  first_or_reach : (r : Request) → Contains rows r → IsAnnounced rows r → (x ≡ r) ⊎ IsLeastReach rows r
  first_or_reach r at_r announced =
      elim announced [
        | inl is ↦ absurd (All-contains (λ y. ¬ StopsEverything y) rows r first.none_stops_everything at_r is.stops)
        | inr others ↦
            elim others [
              | inl is ↦ inl (first_one r at_r is)
              | inr rest ↦
                  elim rest [
                    | inl reach ↦ inr reach
                    | inr owner ↦ absurd (All-contains (λ y. ¬ StopsMedia y) rows x owner.none_stopped at_x first.stops)
                  ]
            ]
      ]

  first_only : All (λ r. r.tuple.overhead ≡ 0) rows → (r : Request) → Contains rows r → IsAnnounced rows r → x ≡ r
  first_only none r at_r announced =
      elim (first_or_reach r at_r announced) [
        | inl is ↦ is
        | inr reach ↦ absurd (omega (arith, reach.has_overhead, All-contains (λ y. y.tuple.overhead ≡ 0) rows r none at_r))
      ]

  pub AnnouncesList-first_stop : All (λ r. r.tuple.overhead ≡ 0) rows → AnnouncesList rows (x ∷ [])
  AnnouncesList-first_stop none = record {
    are_rows = All-cons (Contains rows) x [] at_x (All-nil (Contains rows));
    in_order = λ i j d before below. absurd (omega arith);
    announced = λ r at_r. (
      λ has. subst (IsAnnounced rows) (only_one x r has) (inr (inl first)),
      λ is. (0, omega arith, first_only none r at_r is),
    );
    pairs = HasPairs-stop rows x first.stops;
    covered = λ k d below. covered_alone x (get_or rows k d) first.stops (λ more. absurd (omega (arith, none k d below)));
  }

  pub media_stopped : Any StopsMedia rows
  media_stopped = (at_x.0, x, at_x.1, at_x.2, first.stops)

  -- beside the request of least reach
  module _ (y : Request) (at_y : Contains rows y) (reach : IsLeastReach rows y) where
    sends : 0 < rate_of y.tuple
    sends =
        elim (cases_lt 0 (rate_of y.tuple)) [
          | inl some ↦ some
          | inr none ↦ absurd (omega (arith, reach.has_overhead, no_overhead y at_y (omega arith)))
        ]

    reach_one : (r : Request) → Contains rows r → IsLeastReach rows r → y ≡ r
    reach_one r at_r is =
        let near = All-contains (λ z. 0 < z.tuple.overhead → ReachesNoFarther y z) rows r reach.least at_r is.has_overhead in
        let far = All-contains (λ z. 0 < z.tuple.overhead → ReachesNoFarther r z) rows y is.least at_y reach.has_overhead in
        let as_far : ReachesAsFar y r = omega arith in
        let less = All-contains (λ z. 0 < z.tuple.overhead → ReachesAsFar y z → y.tuple.overhead ≤ z.tuple.overhead) rows r reach.least_overhead at_r is.has_overhead as_far in
        let more = All-contains (λ z. 0 < z.tuple.overhead → ReachesAsFar r z → r.tuple.overhead ≤ z.tuple.overhead) rows y is.least_overhead at_y reach.has_overhead (sym as_far) in
        let same : y.tuple.overhead ≡ r.tuple.overhead = omega arith in
        let before = All-contains (λ z. 0 < z.tuple.overhead → ReachesAsFar y z → y.tuple.overhead ≡ z.tuple.overhead → y.owner.0 ≤ z.owner.0) rows r reach.least_owner at_r is.has_overhead as_far same in
        let after = All-contains (λ z. 0 < z.tuple.overhead → ReachesAsFar r z → r.tuple.overhead ≡ z.tuple.overhead → r.owner.0 ≤ z.owner.0) rows y is.least_owner at_y reach.has_overhead (sym as_far) (sym same) in
        one_row row_owner rows rising y r at_y at_r (omega arith)

    abbrev kept : List Request
    kept = x ∷ y ∷ []

    follows : Follows x y
    follows =
        let none = no_overhead x at_x first.stops in record {
          overhead = omega (arith, reach.has_overhead);
          rate = rw first.stops sends;
          reach = rw (first.stops, none) (omega arith);
        }

    in_order : AllPairs Follows kept
    in_order zero (suc zero) d before below = follows
    in_order zero zero d before below = absurd (omega arith)
    in_order zero (suc (suc j)) d before below = absurd (omega arith)
    in_order (suc i) zero d before below = absurd (omega arith)
    in_order (suc i) (suc j) d before below = absurd (omega arith)

    is_announced : (r : Request) → Contains kept r → IsAnnounced rows r
    is_announced r has =
        elim (one_of_two x y r has) [
          | inl is ↦ subst (IsAnnounced rows) is (inr (inl first))
          | inr is ↦ subst (IsAnnounced rows) is (inr (inr (inl reach)))
        ]

    is_kept : (r : Request) → Contains rows r → IsAnnounced rows r → Contains kept r
    is_kept r at_r announced =
        elim (first_or_reach r at_r announced) [
          | inl is ↦ (0, omega arith, is)
          | inr other ↦ (1, omega arith, reach_one r at_r other)
        ]

    -- one bit without packets, and packets without media just beyond the reach
    abbrev pairs : List RatePair
    pairs = pairs_with_stop kept

    kept_pairs-stop : kept_pairs kept ≡ pairs
    kept_pairs-stop = ap (λ b. if b then pairs_with_stop kept else pairs_from start_end kept) (eq-eqb (rate_of x.tuple) 0 first.stops)

    forbids_there : (j : ℕ) (d : Request) (p : RatePair) → j < 2 → Forbids (get_or kept j d).tuple (get_or pairs j p)
    forbids_there zero d p below = rw first.stops (omega arith)
    forbids_there (suc zero) d p below = omega (arith, reach.has_overhead)
    forbids_there (suc (suc j)) d p below = absurd (omega arith)

    -- who forbids a bit without packets has the rate 0, so no overhead, and forbids no packets without media
    forbids_one : (r : Request) → Contains rows r → (p : RatePair) → Forbids r.tuple (get_or pairs 0 p) → Forbids r.tuple (get_or pairs 1 p) → ⊥
    forbids_one r at_r p forbids both =
        let stops : rate_of r.tuple ≡ 0 = omega arith in
        let none = no_overhead r at_r stops in
        let neither = rw (stops, none) at both in
        absurd (omega arith)

    one_each : (j k : ℕ) (p : RatePair) → j < k → k < 2 → (r : Request) → Contains rows r → Forbids r.tuple (get_or pairs j p) → ¬ Forbids r.tuple (get_or pairs k p)
    one_each zero (suc zero) p before below r at_r forbids both = forbids_one r at_r p forbids both
    one_each zero zero p before below r at_r forbids both = absurd (omega arith)
    one_each zero (suc (suc k)) p before below r at_r forbids both = absurd (omega arith)
    one_each (suc j) zero p before below r at_r forbids both = absurd (omega arith)
    one_each (suc j) (suc k) p before below r at_r forbids both = absurd (omega arith)

    has_pairs : HasPairs rows kept pairs
    has_pairs = record {
      as_many = refl;
      forbidden = forbids_there;
      one_each = λ j k p before below i d lt. one_each j k p before below (get_or rows i d) (Contains-get_or rows i d lt);
    }

    is_covered : (r : Request) → Contains rows r → IsCovered kept r
    is_covered r at_r =
        let none = no_overhead x at_x first.stops in (
          λ no_more. rw first.stops (omega arith),
          λ more.
              let some : 0 < r.tuple.overhead = omega arith in
              let near = All-contains (λ z. 0 < z.tuple.overhead → ReachesNoFarther y z) rows r reach.least at_r some in (
                λ less. rw (first.stops, none) (omega arith),
                λ not_less. (reach.has_overhead, omega arith),
              ),
        )

    pub AnnouncesList-stop_with_reach : AnnouncesList rows kept
    AnnouncesList-stop_with_reach = record {
      are_rows = All-cons (Contains rows) x (y ∷ []) at_x (All-cons (Contains rows) y [] at_y (All-nil (Contains rows)));
      in_order = in_order;
      announced = λ r at_r. (is_announced r, is_kept r at_r);
      pairs = subst (HasPairs rows kept) (sym kept_pairs-stop) has_pairs;
      covered = λ k d below. is_covered (get_or rows k d) (Contains-get_or rows k d below);
    }
