-- Rows that come by rising owner: each goes after those before it.
use Rattle.std.proofs.Common.{◌≡◌, ℕ, zero, ◌+◌, ◌-◌, ◌<◌, List, [], ◌∷◌, ◌++◌, length, get_or, take, Option, Some, None, refl, sym, ap, ◌∙◌, subst, inl, inr, arith}
use Rattle.std.specs.Prelude.{All}
use Rattle.std.proofs.lemmas.Bool.{cases_lt, cases_eq}
use Rattle.std.proofs.lemmas.Bool.Decides.{nat_tests}
use Rattle.std.proofs.lemmas.List.{get_or_default, get_or-take, length-take-le}
use Rattle.std.proofs.lemmas.List.Elements.{All-cons, All-tail}
use Rattle.tmmbr_tuple.specs.declared.tuple.Tuple.{Tuple}
use Rattle.rate_cert.specs.declared.request.Request.{Request}
use Rattle.rate_cert.specs.Owners.{with_row}
use Rattle.rate_cert.proofs.OwnerLemmas.{rising_tail, rising_head, above_lesser, value_for-absent, value_for-above, value_for-head, value_for-behind, value_for-with, value_for-with_other, rising-with}
use Rattle.bounding_set.specs.Rows.{HasRisingOwners, Puts, tuple_of}
use Rattle.bounding_set.proofs.RowLemmas.{row_owner, row_tuple}

-- what an owner below all rows asks for, and one above them
none_below : (x : Request) (rows : List Request) (owner : ℕ) → HasRisingOwners (x ∷ rows) → owner < x.owner.0 → tuple_of (x ∷ rows) owner ≡ None
none_below x rows owner rising below =
    let Above : Request → Type 0 = λ r. owner < r.owner.0 in
    value_for-above row_owner row_tuple (x ∷ rows) owner
    (All-cons Above x rows below (above_lesser row_owner x.owner.0 owner rows below (rising_head row_owner x rows rising)))

pub none_above : (rows : List Request) (owner : ℕ) → All (λ r. r.owner.0 < owner) rows → tuple_of rows owner ≡ None
none_above rows owner above = value_for-absent row_owner row_tuple rows owner (λ k d low below same. omega (arith, above k d below))

none_some : (t : Tuple) (o : Option Tuple) → o ≡ None → o ≡ Some t → ⊥
none_some t o none some = let e : None ≡ Some t = sym none ∙ some in cc

-- rows by rising owner that ask for the same are the same rows
same_rows : (xs ys : List Request) → HasRisingOwners xs → HasRisingOwners ys → ((owner : ℕ) → tuple_of xs owner ≡ tuple_of ys owner) → xs ≡ ys
same_rows [] [] rising_xs rising_ys same = refl
same_rows [] (y ∷ ys) rising_xs rising_ys same =
    absurd (none_some y.tuple (tuple_of [] y.owner.0) refl (same y.owner.0 ∙ value_for-head row_owner row_tuple y ys y.owner.0 refl))
same_rows (x ∷ xs) [] rising_xs rising_ys same =
    absurd (none_some x.tuple (tuple_of [] x.owner.0) refl (sym (same x.owner.0) ∙ value_for-head row_owner row_tuple x xs x.owner.0 refl))
same_rows (x ∷ xs) (y ∷ ys) rising_xs rising_ys same =
    let of_x = value_for-head row_owner row_tuple x xs x.owner.0 refl in
    let of_y = value_for-head row_owner row_tuple y ys y.owner.0 refl in
    elim (cases_lt x.owner.0 y.owner.0) [
      | inl less ↦ absurd (none_some x.tuple (tuple_of (y ∷ ys) x.owner.0) (none_below y ys x.owner.0 rising_ys less) (sym (same x.owner.0) ∙ of_x))
      | inr not_less ↦
          elim (cases_lt y.owner.0 x.owner.0) [
            | inl more ↦ absurd (none_some y.tuple (tuple_of (x ∷ xs) y.owner.0) (none_below x xs y.owner.0 rising_xs more) (same y.owner.0 ∙ of_y))
            | inr not_more ↦
                let owner : x.owner.0 ≡ y.owner.0 = omega arith in
                let asked : Some x.tuple ≡ Some y.tuple =
                sym of_x ∙ same x.owner.0 ∙ value_for-head row_owner row_tuple y ys x.owner.0 (sym owner) in
                let tuple : x.tuple ≡ y.tuple = cc in
                let first : x ≡ y = λ i. record { owner = record { 0 = owner i }; tuple = tuple i } in
                let tail_x = rising_tail row_owner x xs rising_xs in
                let tail_y = rising_tail row_owner y ys rising_ys in
                let others : (o : ℕ) → tuple_of xs o ≡ tuple_of ys o = λ o.
                elim (cases_eq x.owner.0 o) [
                  | inl is ↦
                      value_for-above row_owner row_tuple xs o (subst (λ n. All (λ r. n < r.owner.0) xs) is (rising_head row_owner x xs rising_xs))
                      ∙ sym (value_for-above row_owner row_tuple ys o
                      (subst (λ n. All (λ r. n < r.owner.0) ys) (sym owner ∙ is) (rising_head row_owner y ys rising_ys)))
                  | inr differs ↦
                      sym (value_for-behind row_owner row_tuple x xs o differs)
                      ∙ same o
                      ∙ value_for-behind row_owner row_tuple y ys o (λ is. differs (owner ∙ is))
                ] in
                ap (λ z. z ∷ xs) first ∙ ap (λ zs. y ∷ zs) (same_rows xs ys tail_x tail_y others)
          ]
    ]

-- a row whose owner is above the others goes after them
with_row-last : (rows : List Request) (r : Request) → All (λ x. x.owner.0 < r.owner.0) rows → with_row row_owner rows r ≡ rows ++ r ∷ []
with_row-last [] r above = refl
with_row-last (x ∷ rows) r above =
    let head : x.owner.0 < r.owner.0 = above zero x (omega arith) in
    let rest = with_row-last rows r (All-tail (λ y. y.owner.0 < r.owner.0) x rows above) in
    let step : with_row row_owner (x ∷ rows) r ≡ x ∷ with_row row_owner rows r = grind (arith, nat_tests, head) in
    step ∙ ap (λ ys. x ∷ ys) rest

pub put_last-is : (old new : List Request) (r : Request) → HasRisingOwners old → HasRisingOwners new → All (λ x. x.owner.0 < r.owner.0) old
    → Puts old new r.owner.0 (Some r.tuple) → new ≡ old ++ r ∷ []
put_last-is old new r rising_old rising_new above puts =
    let with_r = with_row row_owner old r in
    let same : (o : ℕ) → tuple_of new o ≡ tuple_of with_r o = λ o.
    elim (cases_eq o r.owner.0) [
      | inl is ↦
          ap (tuple_of new) is ∙ puts.changed ∙ sym (value_for-with row_owner row_tuple old r) ∙ ap (tuple_of with_r) (sym is)
      | inr differs ↦ puts.others o differs ∙ sym (value_for-with_other row_owner row_tuple old r o differs)
    ] in
    same_rows new with_r rising_new (rising-with row_owner old r rising_old) same ∙ with_row-last old r above

-- ---- a list of requests by rising owner

-- the owners of the first ones rise, so many of them
abbrev pub RiseTo : List Request → ℕ → Type 0
RiseTo requests count = (i j : ℕ) (d : Request) → i < j → j < count → (get_or requests i d).owner.0 < (get_or requests j d).owner.0

-- those of one more do, whose owner is above that of the one before it
pub rise_more : (requests : List Request) (count : ℕ) → RiseTo requests count
    → ((d : Request) → (k : ℕ) → k + 1 ≡ count → (get_or requests k d).owner.0 < (get_or requests count d).owner.0) → RiseTo requests (count + 1)
rise_more requests count rise above i j d before below =
    elim (cases_lt j count) [
      | inl earlier ↦ rise i j d before earlier
      | inr last ↦
          let is : j ≡ count = omega arith in
          subst (λ n. (get_or requests i d).owner.0 < (get_or requests n d).owner.0) (sym is)
          (elim (cases_eq (i + 1) count) [
            | inl beside ↦ above d i beside
            | inr apart ↦
                let k = j - 1 in
                let next : k + 1 ≡ count = omega arith in
                omega (arith, rise i k d (omega arith) (omega arith), above d k next)
          ])
    ]

-- the owners of those before one are below it
pub take-below : (requests : List Request) (count : ℕ) (x : Request) → HasRisingOwners requests → count < length requests → x ≡ get_or requests count x
    → All (λ r. r.owner.0 < x.owner.0) (take count requests)
take-below requests count x rising below is = λ k d in_take.
    let long : length (take count requests) ≡ count = length-take-le count requests (omega arith) in
    let before : k < count = omega (arith, long) in
    let taken : get_or (take count requests) k d ≡ get_or requests k d = get_or-take count requests k d before in
    let here : x ≡ get_or requests count d = is ∙ get_or_default requests count x d below in
    omega (arith, ap (λ (r : Request). r.owner.0) taken, ap (λ (r : Request). r.owner.0) here, rising k count d before below)
