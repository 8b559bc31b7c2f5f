-- How dropped rows follow from the kept ones, and which rows are dropped.
use Rattle.std.proofs.Common.{◌≡◌, ◌≢◌, ◌==◌, ℕ, zero, suc, ◌+◌, ◌-◌, ◌*◌, ◌<◌, ◌≤◌, Bool, true, false, not, cond, nat_lt, nat_le, inl, inr, List, [], ◌∷◌, ◌++◌, length, get_or, map, ◌||◌, refl, sym, ap, ◌∙◌, subst, zero-add, arith}
use Rattle.std.specs.Prelude.{All, AllPairs, Contains, filter}
use Rattle.std.specs.List.{list_any, range_with_len}
use Rattle.std.proofs.lemmas.Bool.{cases_lt, cases_Bool, cond_both, ltb-true, ltb-false, leb-true, leb-false, eqb-true, eq-eqb, false≢true}
use Rattle.std.proofs.lemmas.List.{append-nil, map-id, map_push, length-append, get_or_append_left, get_or-append_right}
use Rattle.std.proofs.lemmas.List.Elements.{All-filter, filter-append, filter_passes, Contains-append_left, Contains-append_right}
use Rattle.std.proofs.lemmas.List.Folds.{list_any_at, Any-from_list_any}
use Rattle.std.proofs.lemmas.List.FromFn.{map-range_with_len_more, length-range_with_len, get_or-range_with_len}
use Rattle.std.proofs.lemmas.List.Kept.{AllPairs-filter}
use Rattle.tmmbr_tuple.specs.Tuple.{rate_of}
use Rattle.rate_cert.specs.declared.request.Request.{Request}
use Rattle.rate_cert.specs.declared.certificate.Implied.{Implied}
use Rattle.rate_cert.specs.declared.certificate.Kept.{Kept}
use Rattle.rate_cert.specs.Certificate.{Implies, places_of}
use Rattle.bounding_set.specs.Announced.{IsCoveredFrom, IsCovered}
use Rattle.bounding_set.specs.Certificate.{Listed, implied_above, implied_by, dropped_places}

-- pairwise facts of two lists, and across them, hold of both together
pub AllPairs-append : {X : Type 0} (R : X → X → Type 0) (xs ys : List X) → AllPairs R xs → AllPairs R ys
    → ((i j : ℕ) (d : X) → i < length xs → j < length ys → R (get_or xs i d) (get_or ys j d)) → AllPairs R (xs ++ ys)
AllPairs-append R xs ys in_xs in_ys across i j d before below =
    let n = length xs in
    let long : length (xs ++ ys) ≡ n + length ys = length-append xs ys in
    elim (cases_lt j n) [
      | inl first ↦
          let at_i : get_or (xs ++ ys) i d ≡ get_or xs i d = get_or_append_left xs ys d i (omega arith) in
          let at_j : get_or (xs ++ ys) j d ≡ get_or xs j d = get_or_append_left xs ys d j first in
          rw (at_i, at_j) (in_xs i j d before first)
      | inr later ↦
          let at_j : get_or (xs ++ ys) j d ≡ get_or ys (j - n) d = get_or-append_right xs ys n j d refl later in
          elim (cases_lt i n) [
            | inl first ↦
                let at_i : get_or (xs ++ ys) i d ≡ get_or xs i d = get_or_append_left xs ys d i first in
                rw (at_i, at_j) (across i (j - n) d first (omega arith))
            | inr both ↦
                let at_i : get_or (xs ++ ys) i d ≡ get_or ys (i - n) d = get_or-append_right xs ys n i d refl both in
                rw (at_i, at_j) (in_ys (i - n) (j - n) d (omega arith) (omega arith))
          ]
    ]

-- an element that passes stands in the filtered list
passes_filter : {X : Type 0} (test : X → Bool) (xs : List X) (k : ℕ) (x : X) → k < length xs → get_or xs k x ≡ x → test x ≡ true
    → Contains (filter test xs) x
passes_filter test [] k x below is pass = absurd (omega arith)
passes_filter test (y ∷ ys) zero x below is pass =
    rw (ap test is ∙ pass) (0, omega arith, is)
passes_filter test (y ∷ ys) (suc k) x below is pass =
    let rest = passes_filter test ys k x (omega arith) is pass in
    elim (test y) as (λ b. Contains (cond b (y ∷ filter test ys) (filter test ys)) x) [
      | true ↦ Contains-append_right (y ∷ []) (filter test ys) x rest
      | false ↦ rest
    ]

-- the dropped places are the places that aren't kept
module _ (count : ℕ) (kept : List ℕ) where
  abbrev is_dropped : ℕ → Bool
  is_dropped place = not (list_any (λ k. k == place) kept)

  at_range : (i d : ℕ) → i < length (range_with_len 0 count) → get_or (range_with_len 0 count) i d ≡ i
  at_range i d below =
      let long = length-range_with_len 0 count in
      get_or-range_with_len 0 count i d (omega arith) ∙ zero-add i

  pub dropped_in_range : All (λ place. place < count) (dropped_places count kept)
  dropped_in_range = All-filter is_dropped (λ place. place < count) (range_with_len 0 count)
      (λ i d below. omega (arith, at_range i d below, length-range_with_len 0 count))

  pub dropped_are_distinct : AllPairs (λ x y. x ≢ y) (dropped_places count kept)
  dropped_are_distinct = AllPairs-filter (λ x y. x ≢ y) is_dropped (range_with_len 0 count)
      (λ i j d before below same. omega (arith, same, at_range i d (omega arith), at_range j d below))

  pub dropped_isn't_kept : (place : ℕ) → Contains (dropped_places count kept) place → Contains kept place → ⊥
  dropped_isn't_kept place is_there is_kept =
      let passes : is_dropped (get_or (dropped_places count kept) is_there.0 place) ≡ true =
      filter_passes is_dropped (range_with_len 0 count) is_there.0 place is_there.1 in
      let here : is_dropped place ≡ true = sym (ap is_dropped is_there.2) ∙ passes in
      let found : list_any (λ k. k == place) kept ≡ true =
      list_any_at (λ k. k == place) kept is_kept.0 place is_kept.1 (eq-eqb _ _ is_kept.2) in
      false≢true (sym (ap not found) ∙ here)

  pub kept_or_dropped : (place : ℕ) → place < count → Contains (kept ++ dropped_places count kept) place
  kept_or_dropped place below =
      elim (cases_Bool (list_any (λ k. k == place) kept)) [
        | inl found ↦
            let any = Any-from_list_any (λ k. k == place) kept found in
            let is : any.1 ≡ place = eqb-true any.1 place any.4 in
            Contains-append_left kept (dropped_places count kept) place
            (subst (Contains kept) is (any.0, any.2, any.3))
        | inr none ↦
            let long = length-range_with_len 0 count in
            Contains-append_right kept (dropped_places count kept) place
            (passes_filter is_dropped (range_with_len 0 count) place place (omega arith) (at_range place place (omega arith)) (ap not none))
      ]

-- an entry for the request y: its neighbours are among the places, and imply it
pub record IsEntryFor (rows : List Request) (d y : Request) (places : List ℕ) (at : ℕ) (i : Implied) : Type 0 where
  pub place : i.place ≡ at
  pub a : Contains places i.a
  pub b : Contains places i.b
  pub implies : Implies (get_or rows i.a d) (get_or rows i.b d) y i

-- a dropped request between its neighbours: `a` and `b` are how far its overhead is from theirs
chord_by_steps : (ha a b ra rb r : ℕ) → (ha + a + b) * ra + (ha + a) * rb + ha * r ≤ (ha + a + b) * r + (ha + a) * ra + ha * rb
    → b * ra + a * rb ≤ (a + b) * r
chord_by_steps ha a b ra rb r above = omega (arith, above)

between_by_steps : (ha a b : ℕ) → (a + b) * (ha + a) ≤ b * ha + a * (ha + a + b)
between_by_steps ha a b = omega arith

module _ (ha hb h : ℕ) (low : ha ≤ h) (high : h < hb) where
  to_h : ha + (h - ha) ≡ h
  to_h = omega (arith, low)

  to_hb : h + (hb - h) ≡ hb
  to_hb = omega (arith, high)

  in_all : (h - ha) + (hb - h) ≡ hb - ha
  in_all = omega (arith, low, high)

  -- what stands above the chord from a to b asks for no less rate than they do, and for no more overhead
  chord : (ra rb r : ℕ) → hb * ra + h * rb + ha * r ≤ hb * r + h * ra + ha * rb → (hb - h) * ra + (h - ha) * rb ≤ (hb - ha) * r
  chord ra rb r above = rw in_all at (chord_by_steps ha (h - ha) (hb - h) ra rb r (rw (to_h, to_hb) above))

  between : (hb - ha) * h ≤ (hb - h) * ha + (h - ha) * hb
  between = rw (in_all, to_h, to_hb) at (between_by_steps ha (h - ha) (hb - h))

module _ (rows : List Request) (d y : Request) (place : ℕ) where
  abbrev at : ℕ → Request
  at p = get_or rows p d

  abbrev listed : ℕ → Listed
  listed p = record { place = p; overhead = (at p).tuple.overhead }

  -- it stands for more places too
  one_more : (p : ℕ) (ps : List ℕ) (i : Implied) → IsEntryFor rows d y ps place i → IsEntryFor rows d y (p ∷ ps) place i
  one_more p ps i is = record {
    place = is.place;
    a = Contains-append_right (p ∷ []) ps i.a is.a;
    b = Contains-append_right (p ∷ []) ps i.b is.b;
    implies = is.implies;
  }

  entry_above : (a : ℕ) (bs : List ℕ) → (at a).tuple.overhead ≤ y.tuple.overhead → IsCoveredFrom (at a) (map at bs) y
      → IsEntryFor rows d y (a ∷ bs) place (implied_above place y.tuple.overhead (listed a) (map listed bs))
  entry_above a [] low covered = record {
    place = refl;
    a = (0, omega arith, refl);
    b = (0, omega arith, refl);
    implies = record {
      some = covered.0;
      media = omega (arith, low);
      headers = omega arith;
      rate = omega (arith, covered.1);
    };
  }
  entry_above a (b ∷ bs) low covered =
      let below = y.tuple.overhead in
      let first : Implied = record {
        place = place;
        a = a;
        b = b;
        p = (at b).tuple.overhead - below;
        q = below - (at a).tuple.overhead;
        r = (at b).tuple.overhead - (at a).tuple.overhead;
      } in
      let later : Implied = implied_above place below (listed b) (map listed bs) in
      cond_both (nat_lt below (at b).tuple.overhead) first later (IsEntryFor rows d y (a ∷ b ∷ bs) place)
      (λ test.
      let high : below < (at b).tuple.overhead = ltb-true below _ test in
      record {
        place = refl;
        a = (0, omega arith, refl);
        b = (1, omega arith, refl);
        implies = record {
          some = omega (arith, low, high);
          media = omega (arith, low, high);
          headers = between (at a).tuple.overhead (at b).tuple.overhead below low high;
          rate = chord (at a).tuple.overhead (at b).tuple.overhead below low high (rate_of (at a).tuple) (rate_of (at b).tuple) (rate_of y.tuple)
              (covered.0 high);
        };
      })
      (λ test.
      let past : (at b).tuple.overhead ≤ below = ltb-false below _ test in
      one_more a (b ∷ bs) later (entry_above b bs past (covered.1 past)))

  pub entry_by : (places : List ℕ) → IsCovered (map at places) y
      → IsEntryFor rows d y places place (implied_by (map listed places) place y.tuple.overhead)
  entry_by [] covered = absurd covered
  entry_by (x ∷ xs) covered =
      let over = y.tuple.overhead in
      let first : Implied = record { place = place; a = x; b = x; p = 1; q = 0; r = 1 } in
      let later : Implied = implied_above place over (listed x) (map listed xs) in
      cond_both (nat_le over (at x).tuple.overhead) first later (IsEntryFor rows d y (x ∷ xs) place)
      (λ test.
      let low : over ≤ (at x).tuple.overhead = leb-true over _ test in
      record {
        place = refl;
        a = (0, omega arith, refl);
        b = (0, omega arith, refl);
        implies = record {
          some = omega arith;
          media = omega arith;
          headers = omega (arith, low);
          rate = omega (arith, covered.0 low);
        };
      })
      (λ test.
      let high : (at x).tuple.overhead < over = leb-false over _ test in
      entry_above x xs (omega (arith, high)) (covered.1 high))

-- one more place to look at
module _ (count : ℕ) (kept : List ℕ) where
  range_more : range_with_len 0 (count + 1) ≡ range_with_len 0 count ++ count ∷ []
  range_more =
      sym (map-id (range_with_len 0 (count + 1)))
      ∙ map-range_with_len_more (λ x. x) 0 count count (zero-add count)
      ∙ ap (λ xs. xs ++ count ∷ []) (map-id (range_with_len 0 count))

  dropped_more : dropped_places (count + 1) kept ≡ dropped_places count kept ++ cond (is_dropped count kept count) (count ∷ []) []
  dropped_more =
      ap (filter (is_dropped count kept)) range_more
      ∙ filter-append (is_dropped count kept) (range_with_len 0 count) (count ∷ [])

  pub entries_more : (entry : ℕ → Implied) (entries after : List Implied) (new : Implied) → entries ≡ map entry (dropped_places count kept)
      → list_any (λ k. k == count) kept ≡ false → new ≡ entry count → after ≡ entries ++ new ∷ []
      → after ≡ map entry (dropped_places (count + 1) kept)
  entries_more entry entries after new so_far none is pushed =
      let here : is_dropped count kept count ≡ true = ap not none in
      pushed
      ∙ ap (λ es. es ++ new ∷ []) so_far
      ∙ ap (λ e. map entry (dropped_places count kept) ++ e ∷ []) is
      ∙ sym (map_push entry (dropped_places count kept) count)
      ∙ ap (map entry) (sym (dropped_more ∙ ap (λ b. dropped_places count kept ++ cond b (count ∷ []) []) here))

  pub entries_same : (entry : ℕ → Implied) (entries : List Implied) → entries ≡ map entry (dropped_places count kept)
      → list_any (λ k. k == count) kept ≡ true → entries ≡ map entry (dropped_places (count + 1) kept)
  entries_same entry entries so_far found =
      let here : is_dropped count kept count ≡ false = ap not found in
      so_far
      ∙ ap (map entry) (sym (dropped_more ∙ ap (λ b. dropped_places count kept ++ cond b (count ∷ []) []) here ∙ append-nil _))

-- the same test of the entries and of their places
pub any_place : (kept : List Kept) (place : ℕ) → list_any (λ (k : Kept). k.place == place) kept ≡ list_any (λ k. k == place) (places_of kept)
any_place [] place = refl
any_place (k ∷ kept) place = ap (λ b. (k.place == place) || b) (any_place kept place)
