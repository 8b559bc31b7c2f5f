-- The certificate of the announced requests.
use Rattle.std.proofs.Common.{◌≡◌, ◌≢◌, ℕ, zero, suc, ◌<◌, ◌≤◌, inl, inr, List, [], ◌∷◌, ◌++◌, length, get_or, map, sym, ap, ◌∙◌, subst, lit<, arith}
use Rattle.std.specs.Prelude.{All, AllPairs, Contains}
use Rattle.std.specs.List.{HoldsAt}
use Rattle.std.proofs.lemmas.List.{length-map, get_or-map, get_or_default, same_lists}
use Rattle.std.proofs.lemmas.List.Elements.{All-append, Contains-get_or}
use Rattle.tmmbr_tuple.specs.RatePair.{RatePair, pair_of}
use Rattle.rate_cert.specs.declared.request.Request.{Request}
use Rattle.rate_cert.specs.declared.certificate.Kept.{Kept}
use Rattle.rate_cert.specs.declared.certificate.Implied.{Implied}
use Rattle.rate_cert.specs.Choice.{IsChoice}
use Rattle.rate_cert.specs.Certificate.{places_of, Implies, MeetsConditions}
use Rattle.rate_cert.proofs.Smallest.{IsSmallest-from_MeetsConditions}
use Rattle.rate_cert.proofs.Pigeonhole.{AnyByRecursion, no_more_than_partners}
use Rattle.rate_cert.proofs.OwnerLemmas.{same_place}
use Rattle.bounding_set.specs.Rows.{HasRisingOwners}
use Rattle.bounding_set.specs.Announced.{AnnouncesList, Follows, IsCovered}
use Rattle.bounding_set.specs.Canonical.{IsAnnounced, IsCanonical}
use Rattle.bounding_set.specs.Certificate.{kept_pairs, dropped_places, implied_by}
use Rattle.bounding_set.specs.Kept.{KeepsRequests, pairs_of, listed_of}
use Rattle.bounding_set.specs.State.{AnnouncesFor}
use Rattle.bounding_set.proofs.RowLemmas.{row_owner}
use Rattle.bounding_set.proofs.KeptLemmas.{places_in_range, requests_by_place, as_many_places, as_many_requests, request_at}
use Rattle.bounding_set.proofs.ImpliedLemmas.{AllPairs-append, IsEntryFor, entry_by, dropped_in_range, dropped_are_distinct, dropped_isn't_kept, kept_or_dropped}

-- what stands past the end of lists
a_request : Request
a_request = record {
  owner = record { 0 = 0 };
  tuple = record {
    exp = 0;
    mantissa = 0;
    overhead = 0;
    exp_in_range = lit< tt;
    mantissa_in_range = lit< tt;
    overhead_in_range = lit< tt;
  };
}

no_pair : RatePair
no_pair = record { packets = 0; bits = 0; seconds = 0 }

no_entry : Implied
no_entry = record { place = 0; a = 0; b = 0; p = 0; q = 0; r = 0 }

-- an element stands somewhere
found_in : {X : Type 0} (xs : List X) (k : ℕ) (x : X) → k < length xs → get_or xs k x ≡ x → AnyByRecursion (λ y. y ≡ x) xs
found_in [] k x below is = absurd (omega arith)
found_in (y ∷ ys) zero x below is = inl is
found_in (y ∷ ys) (suc k) x below is = inr (found_in ys k x (omega arith) is)

-- requests of rising overhead that are rows are no more than the rows
pub no_more_than_rows : (rows announced : List Request) → All (Contains rows) announced → AllPairs Follows announced
    → length announced ≤ length rows
no_more_than_rows rows announced are_rows in_order =
    no_more_than_partners (λ x y. x ≡ y) rows announced
    (λ i d below. let row = are_rows i d below in found_in rows row.0 (get_or announced i d) row.1 row.2)
    (λ i j d before below x is_i is_j.
    let same = ap (λ (r : Request). r.tuple.overhead) (sym is_i ∙ is_j) in
    omega (arith, same, (in_order i j d before below).overhead))

module _ (rows announced : List Request) (kept : List Kept) (implied : List Implied)
    (rising : HasRisingOwners rows) (list : AnnouncesList rows announced) (keeps : KeepsRequests rows announced kept)
    (pairs : pairs_of kept ≡ kept_pairs announced)
    (others : (d : Request) → implied ≡ map (λ place. implied_by (listed_of rows d kept) place (get_or rows place d).tuple.overhead)
    (dropped_places (length rows) (places_of kept))) where
  abbrev places : List ℕ
  places = places_of kept

  abbrev dropped : List ℕ
  dropped = dropped_places (length rows) places

  abbrev entry : Request → ℕ → Implied
  entry d place = implied_by (listed_of rows d kept) place (get_or rows place d).tuple.overhead

  as_many : length places ≡ length announced
  as_many = as_many_places rows announced kept keeps ∙ as_many_requests rows announced kept keeps a_request

  as_many_kept : length kept ≡ length announced
  as_many_kept = as_many_requests rows announced kept keeps a_request

  in_range : All (λ place. place < length rows) places
  in_range = places_in_range rows announced kept keeps

  at : (j p : ℕ) (d : Request) → j < length places → get_or rows (get_or places j p) d ≡ get_or announced j d
  at = request_at rows announced kept keeps

  rising_overheads : (d : Request) → AllPairs (λ i j. (get_or rows i d).tuple.overhead < (get_or rows j d).tuple.overhead) places
  rising_overheads d i j p before below =
      rw (at i p d (omega arith), at j p d below) ((list.in_order i j d before (omega (arith, as_many))).overhead)

  distinct : AllPairs (λ x y. x ≢ y) places
  distinct i j p before below same =
      let rise = rising_overheads a_request i j p before below in
      omega (arith, rise, ap (λ place. (get_or rows place a_request).tuple.overhead) same)

  choice : IsChoice rows places
  choice = record { in_range = in_range; distinct = distinct }

  is_announced : (place : ℕ) → place < length rows → Contains places place → HoldsAt (IsAnnounced rows) rows place
  is_announced place below has d =
      let same : get_or rows place d ≡ get_or announced has.0 d =
      ap (λ p. get_or rows p d) (sym has.2) ∙ at has.0 place d has.1 in
      let member : Contains announced (get_or rows place d) =
      subst (Contains announced) (sym same) (Contains-get_or announced has.0 d (omega (arith, has.1, as_many))) in
      (list.announced (get_or rows place d) (Contains-get_or rows place d below)).0 member

  is_kept : (place : ℕ) → place < length rows → HoldsAt (IsAnnounced rows) rows place → Contains places place
  is_kept place below holds =
      let r = get_or rows place a_request in
      let has : Contains announced r = (list.announced r (Contains-get_or rows place a_request below)).1 (holds a_request) in
      let some : has.0 < length places = omega (arith, has.1, as_many) in
      let here = get_or places has.0 place in
      let is : get_or rows here r ≡ r = at has.0 place r some ∙ has.2 in
      let there : get_or rows place r ≡ r = get_or_default rows place r a_request below in (
        has.0,
        some,
        same_place row_owner rows here place r rising (in_range has.0 place some) below (ap (λ (q : Request). q.owner.0) (is ∙ sym there)),
      )

  canonical : IsCanonical rows places
  canonical = record {
    choice = choice;
    rising = rising_overheads;
    announced = λ place below. (is_announced place below, is_kept place below);
  }

  -- the entry of a dropped place, at d
  entry_for : (d : Request) (place : ℕ) → place < length rows → IsEntryFor rows d (get_or rows place d) places place (entry d place)
  entry_for d place below =
      let by_place : announced ≡ map (λ p. get_or rows p d) places = requests_by_place rows announced kept keeps d in
      entry_by rows d (get_or rows place d) place places
      (subst (λ rs. IsCovered rs (get_or rows place d)) by_place (list.covered place d below))

  as_many_implied : length implied ≡ length dropped
  as_many_implied = ap length (others a_request) ∙ length-map dropped (entry a_request)

  entry_is : (d : Request) (k p : ℕ) (e : Implied) → k < length dropped → get_or implied k e ≡ entry d (get_or dropped k p)
  entry_is d k p e below = ap (λ is. get_or is k e) (others d) ∙ get_or-map (entry d) dropped k p e below

  -- the k-th entry is of the k-th dropped place
  entry_at_place : (d : Request) (k p : ℕ) (e : Implied) → k < length dropped
      → IsEntryFor rows d (get_or rows (get_or dropped k p) d) places (get_or dropped k p) (get_or implied k e)
  entry_at_place d k p e below =
      let place = get_or dropped k p in
      subst (IsEntryFor rows d (get_or rows place d) places place) (sym (entry_is d k p e below))
      (entry_for d place (dropped_in_range (length rows) places k p below))

  implied_places : map (λ i. i.place) implied ≡ dropped
  implied_places =
      same_lists (map (λ i. i.place) implied) dropped (length-map implied (λ i. i.place) ∙ as_many_implied)
      (λ k d below.
      let in_implied : k < length implied = rw length-map at below in
      get_or-map (λ i. i.place) implied k no_entry d in_implied
      ∙ (entry_at_place a_request k d no_entry (omega (arith, in_implied, as_many_implied))).place)

  -- no place is kept and dropped
  apart : (i j d : ℕ) → i < length places → j < length dropped → get_or places i d ≢ get_or dropped j d
  apart i j d in_kept in_dropped same =
      dropped_isn't_kept (length rows) places (get_or dropped j d) (Contains-get_or dropped j d in_dropped)
      (subst (Contains places) same (Contains-get_or places i d in_kept))

  -- the pair and the request of an entry
  pair_of_entry : (j : ℕ) (d : Kept) → j < length kept → pair_of (get_or kept j d).pair ≡ get_or (kept_pairs announced) j no_pair
  pair_of_entry j d below = sym (get_or-map (λ (k : Kept). pair_of k.pair) kept j d no_pair below) ∙ ap (λ ps. get_or ps j no_pair) pairs

  request_of_entry : (j : ℕ) (d : Kept) (e : Request) → j < length kept → get_or rows (get_or kept j d).place e ≡ get_or announced j e
  request_of_entry j d e below =
      ap (λ place. get_or rows place e) (sym (get_or-map (λ (k : Kept). k.place) kept j d 0 below))
      ∙ at j 0 e (rw length-map below)

  meets : MeetsConditions rows kept implied
  meets = record {
    places = record {
      named = subst (λ ps. IsChoice rows (places ++ ps)) (sym implied_places)
          record {
            in_range = All-append (λ place. place < length rows) places dropped in_range (dropped_in_range (length rows) places);
            distinct = AllPairs-append (λ x y. x ≢ y) places dropped distinct (dropped_are_distinct (length rows) places) apart;
          };
      neighbours = λ k d below.
          let here = entry_at_place a_request k 0 d (omega (arith, below, as_many_implied)) in
          (here.a, here.b);
    };
    forbidden = λ j d below e.
        rw (request_of_entry j d e below, pair_of_entry j d below) (list.pairs.forbidden j e no_pair (omega (arith, below, as_many_kept)));
    one_each = λ place below d j k e before past.
        rw (pair_of_entry j e (omega arith), pair_of_entry k e past)
        (list.pairs.one_each j k no_pair before (omega (arith, past, as_many_kept)) place d below);
    implications = λ place below k i in_implied same d.
        let here = entry_at_place d k 0 i (omega (arith, in_implied, as_many_implied)) in
        subst (λ p. Implies (get_or rows (get_or implied k i).a d) (get_or rows (get_or implied k i).b d) (get_or rows p d) (get_or implied k i))
        (sym here.place) here.implies;
    complete = λ place below. subst (λ ps. Contains (places ++ ps) place) (sym implied_places) (kept_or_dropped (length rows) places place below);
  }

  pub AnnouncesFor-certificate : AnnouncesFor rows (record { kept = record { items = kept }; implied = record { items = implied } })
  AnnouncesFor-certificate = record {
    canonical = canonical;
    smallest = IsSmallest-from_MeetsConditions rows kept implied meets;
    certified = meets;
    given = record {
      canonical = canonical;
      pairs = pairs ∙ ap kept_pairs (sym keeps.in_turn);
      implied = others;
    };
  }
