-- Rows by rising owner: what a search finds, what is known of an owner, and what an edit does.
use Rattle.std.proofs.Common.{◌≡◌, ℕ, zero, suc, ◌<◌, ◌≤◌, ◌≢◌, List, [], ◌∷◌, length, get_or, set, Some, None, Result, Ok, Err, IfOk, IfErr, refl, sym, ap, ◌∙◌, inl, inr, subst, arith}
use Rattle.std.specs.Prelude.{All, Contains}
use Rattle.std.specs.List.{insert, remove, AllWithin}
use Rattle.std.specs.List.Sorted.{IsSearchInRange, IsBinarySearchResult, IsNonDecreasingBy}
use Rattle.std.specs.Ordering.{nat_cmp, ordering_index}
use Rattle.std.proofs.lemmas.Bool.{cases_lt, cases_eq}
use Rattle.std.proofs.lemmas.Bool.Decides.{nat_tests}
use Rattle.std.proofs.lemmas.Cmp.{ranked}
use Rattle.std.proofs.lemmas.List.{get_or_default}
use Rattle.std.proofs.lemmas.List.Kept.{AllPairs-cons, AllPairs-filter}
use Rattle.std.proofs.lemmas.List.Elements.{All-cons}
use Rattle.rate_cert.specs.Owners.{OwnersRise, value_for, with_row, without_row, IsOwnerAt, IsOwnerGap}

module _ {A : Type 0} (owner_of : A → ℕ) where
  -- the owners of all rows are greater than this one
  abbrev pub OwnersAbove : ℕ → List A → Type 0
  OwnersAbove owner rows = All (λ r. owner < owner_of r) rows

  -- no row before the place is the owner's
  abbrev pub NoOwnerBefore : List A → ℕ → ℕ → Type 0
  NoOwnerBefore rows owner place = AllWithin (λ r. owner_of r ≢ owner) rows 0 place

  -- ---- the first row and the others

  pub rising_tail : (r : A) (rows : List A) → OwnersRise owner_of (r ∷ rows) → OwnersRise owner_of rows
  rising_tail r rows rising = λ i j d before below. rising (suc i) (suc j) d (omega arith) (omega arith)

  pub rising_head : (r : A) (rows : List A) → OwnersRise owner_of (r ∷ rows) → OwnersAbove (owner_of r) rows
  rising_head r rows rising = λ k d below. rising zero (suc k) d (omega arith) (omega arith)

  pub above_tail : (owner : ℕ) (r : A) (rows : List A) → OwnersAbove owner (r ∷ rows) → OwnersAbove owner rows
  above_tail owner r rows above = λ k d below. above (suc k) d (omega arith)

  pub above_lesser : (owner lesser : ℕ) (rows : List A) → lesser < owner → OwnersAbove owner rows → OwnersAbove lesser rows
  above_lesser owner lesser rows lt above = λ k d below. omega (arith, above k d below)

  not_before_tail : (r : A) (rows : List A) (owner place : ℕ) → NoOwnerBefore (r ∷ rows) owner (suc place) → NoOwnerBefore rows owner place
  not_before_tail r rows owner place before = λ k d low below. before (suc k) d (omega arith) (omega arith)

  place_tail : (r : A) (rows : List A) (owner place : ℕ) → IsOwnerAt owner_of (r ∷ rows) owner (suc place) → IsOwnerAt owner_of rows owner place
  place_tail r rows owner place is = record { in_range = omega (arith, is.in_range); is_owner = λ d. is.is_owner d }

  gap_tail : (r : A) (rows : List A) (owner place : ℕ) → IsOwnerGap owner_of (r ∷ rows) owner (suc place) → IsOwnerGap owner_of rows owner place
  gap_tail r rows owner place gap = record {
    in_range = omega (arith, gap.in_range);
    lesser_before = λ k d low below. gap.lesser_before (suc k) d (omega arith) (omega arith);
    greater_after = λ k d low below. gap.greater_after (suc k) d (omega arith) (omega arith);
  }

  -- the owner at a later place is greater than the first
  place_above : (r : A) (rows : List A) (owner place : ℕ) → OwnersRise owner_of (r ∷ rows) → IsOwnerAt owner_of (r ∷ rows) owner (suc place)
      → owner_of r < owner
  place_above r rows owner place rising is = omega (arith, rising zero (suc place) r (omega arith) is.in_range, is.is_owner r)

  -- ---- places and gaps

  -- if there is a gap for an owner, it has no row
  pub none_with_gap : (rows : List A) (owner place : ℕ) → IsOwnerGap owner_of rows owner place → NoOwnerBefore rows owner (length rows)
  none_with_gap rows owner place gap = λ k d low below same.
      elim (cases_lt k place) [
        | inl before ↦ absurd (omega (arith, gap.lesser_before k d low before))
        | inr after ↦ absurd (omega (arith, gap.greater_after k d after below))
      ]

  -- two rows of one owner are one row
  pub same_place : (rows : List A) (i j : ℕ) (d : A) → OwnersRise owner_of rows → i < length rows → j < length rows
      → owner_of (get_or rows i d) ≡ owner_of (get_or rows j d) → i ≡ j
  same_place rows i j d rising in_i in_j same =
      elim (cases_lt i j) [
        | inl before ↦ absurd (omega (arith, rising i j d before in_j))
        | inr not_before ↦
            elim (cases_lt j i) [
              | inl after ↦ absurd (omega (arith, rising j i d after in_i))
              | inr not_after ↦ omega arith
            ]
      ]

  -- where a row of the list stands, its owner is
  pub owner_at : (rows : List A) (x : A) (found : Contains rows x) (d : A) → owner_of (get_or rows found.0 d) ≡ owner_of x
  owner_at rows x found d = ap owner_of (get_or_default rows found.0 d x found.1 ∙ found.2)

  -- rows with one owner are one row
  pub one_row : (rows : List A) → OwnersRise owner_of rows → (x y : A) → Contains rows x → Contains rows y → owner_of x ≡ owner_of y → x ≡ y
  one_row rows rising x y at_x at_y same =
      let places : at_x.0 ≡ at_y.0 = same_place rows at_x.0 at_y.0 x rising at_x.1 at_y.1 (omega (arith, same, owner_at rows x at_x x, owner_at rows y at_y x)) in
      sym at_x.2 ∙ ap (λ k. get_or rows k x) places ∙ get_or_default rows at_y.0 x y at_y.1 ∙ at_y.2

  -- a row of the list stands at its owner's place
  pub place_of-row : (rows : List A) (x : A) (found : Contains rows x) → IsOwnerAt owner_of rows (owner_of x) found.0
  place_of-row rows x found = record { in_range = found.1; is_owner = λ d. owner_at rows x found d }

  -- what a binary search by owner answers
  pub searched : (rows : List A) (owner : ℕ) (r : Result ℕ ℕ) → OwnersRise owner_of rows → IsSearchInRange r (length rows)
      → IsBinarySearchResult (λ row. nat_cmp (owner_of row) owner) rows r
      → record { found : IfOk r (IsOwnerAt owner_of rows owner); absent : IfErr r (IsOwnerGap owner_of rows owner) }
  searched rows owner (Ok at) rising in_range equal = record {
    found = record { in_range = in_range; is_owner = λ d. ranked _ owner _ (sym (equal d)) };
    absent = tt;
  }
  searched rows owner (Err at) rising in_range parted =
      let comparisons_rise : IsNonDecreasingBy (λ (row : A). ordering_index (nat_cmp (owner_of row) owner)) rows = λ i j d le below.
      elim (cases_lt i j) [
        | inl before ↦ let rise = rising i j d before below in grind (arith, nat_tests)
        | inr after ↦
            let same : i ≡ j = omega arith in
            subst (λ k. ordering_index (nat_cmp (owner_of (get_or rows i d)) owner) ≤ ordering_index (nat_cmp (owner_of (get_or rows k d)) owner)) same (omega arith)
      ] in
      let parts = parted comparisons_rise in record {
        found = tt;
        absent = record {
          in_range = in_range;
          lesser_before = λ k d low below. ranked _ owner _ (sym (parts.0 k d low below));
          greater_after = λ k d low below. ranked _ owner _ (sym (parts.1 k d low below));
        };
      }

  -- ---- what is known of an owner

  module _ {B : Type 0} (value_of : A → B) where
    -- nothing, if no row is the owner's
    pub value_for-absent : (rows : List A) (owner : ℕ) → NoOwnerBefore rows owner (length rows) → value_for owner_of value_of rows owner ≡ None
    value_for-absent [] owner before = refl
    value_for-absent (r ∷ rows) owner before =
        grind (arith, nat_tests, before 0 r (omega arith) (omega arith), value_for-absent rows owner (not_before_tail r rows owner _ before))

    pub value_for-above : (rows : List A) (owner : ℕ) → OwnersAbove owner rows → value_for owner_of value_of rows owner ≡ None
    value_for-above rows owner above = value_for-absent rows owner (λ k d low below same. omega (arith, above k d below))

    pub value_for-gap : (rows : List A) (owner place : ℕ) → IsOwnerGap owner_of rows owner place → value_for owner_of value_of rows owner ≡ None
    value_for-gap rows owner place gap = value_for-absent rows owner (none_with_gap rows owner place gap)

    -- the first row is the owner's, or the others say it
    pub value_for-head : (r : A) (rows : List A) (owner : ℕ) → owner_of r ≡ owner → value_for owner_of value_of (r ∷ rows) owner ≡ Some (value_of r)
    value_for-head r rows owner same = grind (arith, nat_tests, same)

    pub value_for-behind : (r : A) (rows : List A) (owner : ℕ) → owner_of r ≢ owner
        → value_for owner_of value_of (r ∷ rows) owner ≡ value_for owner_of value_of rows owner
    value_for-behind r rows owner differs = grind (arith, nat_tests, differs)

    -- what the row at the owner's place says
    pub value_for-place : (rows : List A) (owner place : ℕ) (d : A) → OwnersRise owner_of rows → IsOwnerAt owner_of rows owner place
        → value_for owner_of value_of rows owner ≡ Some (value_of (get_or rows place d))
    value_for-place [] owner place d rising is = absurd (omega (arith, is.in_range))
    value_for-place (r ∷ rows) owner zero d rising is = grind (arith, nat_tests, is.is_owner r)
    value_for-place (r ∷ rows) owner (suc place) d rising is =
        grind (
          arith,
          nat_tests,
          place_above r rows owner place rising is,
          value_for-place rows owner place d (rising_tail r rows rising) (place_tail r rows owner place is),
        )

    -- once a row was put in, or its owner's was taken out
    pub value_for-with : (rows : List A) (new : A) → value_for owner_of value_of (with_row owner_of rows new) (owner_of new) ≡ Some (value_of new)
    value_for-with [] new = grind (arith, nat_tests)
    value_for-with (r ∷ rows) new = grind (arith, nat_tests, value_for-with rows new)

    pub value_for-with_other : (rows : List A) (new : A) (other : ℕ) → other ≢ owner_of new
        → value_for owner_of value_of (with_row owner_of rows new) other ≡ value_for owner_of value_of rows other
    value_for-with_other [] new other differs = grind (arith, nat_tests, differs)
    value_for-with_other (r ∷ rows) new other differs = grind (arith, nat_tests, differs, value_for-with_other rows new other differs)

    pub value_for-without : (rows : List A) (owner : ℕ) → value_for owner_of value_of (without_row owner_of rows owner) owner ≡ None
    value_for-without [] owner = refl
    value_for-without (r ∷ rows) owner = grind (arith, nat_tests, value_for-without rows owner)

    pub value_for-without_other : (rows : List A) (owner other : ℕ) → other ≢ owner
        → value_for owner_of value_of (without_row owner_of rows owner) other ≡ value_for owner_of value_of rows other
    value_for-without_other [] owner other differs = refl
    value_for-without_other (r ∷ rows) owner other differs = grind (arith, nat_tests, differs, value_for-without_other rows owner other differs)

  -- ---- edits by place

  -- a write over the owner's row
  pub set_is : (rows : List A) (place : ℕ) (new : A) → OwnersRise owner_of rows → IsOwnerAt owner_of rows (owner_of new) place
      → set rows place new ≡ with_row owner_of rows new
  set_is [] place new rising is = absurd (omega (arith, is.in_range))
  set_is (r ∷ rows) zero new rising is = grind (arith, nat_tests, is.is_owner r)
  set_is (r ∷ rows) (suc place) new rising is =
      grind (
        arith,
        nat_tests,
        place_above r rows (owner_of new) place rising is,
        set_is rows place new (rising_tail r rows rising) (place_tail r rows (owner_of new) place is),
      )

  -- a new row at the place where it goes
  pub insert_is : (rows : List A) (place : ℕ) (new : A) → IsOwnerGap owner_of rows (owner_of new) place → insert rows place new ≡ with_row owner_of rows new
  insert_is [] zero new gap = refl
  insert_is [] (suc place) new gap = absurd (omega (arith, gap.in_range))
  insert_is (r ∷ rows) zero new gap = grind (arith, nat_tests, gap.greater_after zero r (omega arith) (omega arith))
  insert_is (r ∷ rows) (suc place) new gap =
      grind (
        arith,
        nat_tests,
        gap.lesser_before zero r (omega arith) (omega arith),
        insert_is rows place new (gap_tail r rows (owner_of new) place gap),
      )

  -- nothing is taken out if no row is the owner's
  pub without-absent : (rows : List A) (owner : ℕ) → NoOwnerBefore rows owner (length rows) → without_row owner_of rows owner ≡ rows
  without-absent [] owner before = refl
  without-absent (r ∷ rows) owner before =
      grind (arith, nat_tests, before 0 r (omega arith) (omega arith), without-absent rows owner (not_before_tail r rows owner _ before))

  -- taking the row at the owner's place out
  pub remove_is : (rows : List A) (place owner : ℕ) → OwnersRise owner_of rows → IsOwnerAt owner_of rows owner place
      → remove rows place ≡ without_row owner_of rows owner
  remove_is [] place owner rising is = absurd (omega (arith, is.in_range))
  remove_is (r ∷ rows) zero owner rising is =
      let none : NoOwnerBefore rows owner (length rows) = λ k d low below same.
      omega (arith, is.is_owner r, rising_head r rows rising k d below) in
      grind (arith, nat_tests, is.is_owner r, without-absent rows owner none)
  remove_is (r ∷ rows) (suc place) owner rising is =
      grind (
        arith,
        nat_tests,
        place_above r rows owner place rising is,
        remove_is rows place owner (rising_tail r rows rising) (place_tail r rows owner place is),
      )

  -- ---- what edits keep

  -- the three ways in which rows go on that have this one put among them
  with_cases : (P : List A → Type 0) (r : A) (rows : List A) (new : A)
      → (owner_of new < owner_of r → P (new ∷ r ∷ rows)) → (owner_of r ≡ owner_of new → P (new ∷ rows))
      → (owner_of r < owner_of new → P (r ∷ with_row owner_of rows new)) → P (with_row owner_of (r ∷ rows) new)
  with_cases P r rows new before same after =
      elim (cases_lt (owner_of new) (owner_of r)) [
        | inl lt ↦
            let e : new ∷ r ∷ rows ≡ with_row owner_of (r ∷ rows) new = grind (arith, nat_tests, lt) in
            subst P e (before lt)
        | inr from ↦
            elim (cases_eq (owner_of r) (owner_of new)) [
              | inl is ↦
                  let e : new ∷ rows ≡ with_row owner_of (r ∷ rows) new = grind (arith, nat_tests, is) in
                  subst P e (same is)
              | inr differs ↦
                  let e : r ∷ with_row owner_of rows new ≡ with_row owner_of (r ∷ rows) new = grind (arith, nat_tests, from, differs) in
                  subst P e (after (omega (arith, from, differs)))
            ]
      ]

  pub all-with : (Q : A → Type 0) (rows : List A) (new : A) → Q new → All Q rows → All Q (with_row owner_of rows new)
  all-with Q [] new holds all = All-cons Q new [] holds all
  all-with Q (r ∷ rows) new holds all =
      let rest : All Q rows = λ k d within. all (suc k) d (omega arith) in
      with_cases (All Q) r rows new
      (λ before. All-cons Q new (r ∷ rows) holds all)
      (λ same. All-cons Q new rows holds rest)
      (λ after. All-cons Q r (with_row owner_of rows new) (all zero r (omega arith)) (all-with Q rows new holds rest))

  pub rising-with : (rows : List A) (new : A) → OwnersRise owner_of rows → OwnersRise owner_of (with_row owner_of rows new)
  rising-with [] new rising = λ i j d before within. absurd (omega arith)
  rising-with (r ∷ rows) new rising =
      let R : A → A → Type 0 = λ x y. owner_of x < owner_of y in
      let head : OwnersAbove (owner_of r) rows = rising_head r rows rising in
      with_cases (OwnersRise owner_of) r rows new
      (λ before. AllPairs-cons R new (r ∷ rows) (All-cons (R new) r rows before (above_lesser (owner_of r) (owner_of new) rows before head)) rising)
      (λ same. AllPairs-cons R new rows (λ k d within. omega (arith, same, head k d within)) (rising_tail r rows rising))
      (λ after. AllPairs-cons R r (with_row owner_of rows new) (all-with (R r) rows new after head)
      (rising-with rows new (rising_tail r rows rising)))

  pub rising-without : (rows : List A) (owner : ℕ) → OwnersRise owner_of rows → OwnersRise owner_of (without_row owner_of rows owner)
  rising-without rows owner rising = AllPairs-filter (λ (x y : A). owner_of x < owner_of y) _ rows rising
