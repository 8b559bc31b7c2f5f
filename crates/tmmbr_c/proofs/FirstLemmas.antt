-- There is one first, and none if nothing is said against any element.
use Rattle.std.proofs.Common.{◌≡◌, ◌≢◌, ℕ, ◌<◌, List, length, ap, ◌∙◌, inl, inr, arith}
use Rattle.std.specs.Prelude.{All, AllPairs}
use Rattle.std.proofs.lemmas.Bool.{cases_lt}
use Rattle.std.proofs.lemmas.List.{get_or_default}
use Rattle.tmmbr_c.specs.declared.numbers.TmmbrRequest.{TmmbrRequest}
use Rattle.tmmbr_c.specs.First.{IsFirstFailing, IsRepeated, IsFirstRepeated}

module _ {A : Type 0} (Fact : A → Type 0) (xs : List A) (d : A) where
  no_earlier : (p q : ℕ) → IsFirstFailing Fact xs p → IsFirstFailing Fact xs q → p < q → ⊥
  no_earlier p q first other earlier = first.fails d (other.before p d (omega arith) earlier)

  pub one_first : (p q : ℕ) → IsFirstFailing Fact xs p → IsFirstFailing Fact xs q → p ≡ q
  one_first p q first other =
      elim (cases_lt p q) [
        | inl earlier ↦ absurd (no_earlier p q first other earlier)
        | inr not_earlier ↦
            elim (cases_lt q p) [
              | inl later ↦ absurd (no_earlier q p other first later)
              | inr not_later ↦ omega arith
            ]
      ]

  pub no_first : (p : ℕ) → All Fact xs → IsFirstFailing Fact xs p → ⊥
  no_first p all first = first.fails d (all p d first.in_range)

module _ (asked : List TmmbrRequest) where
  pub one_repeated : (p q : ℕ) → IsFirstRepeated asked p → IsFirstRepeated asked q → p ≡ q
  one_repeated p q first other =
      elim (cases_lt p q) [
        | inl earlier ↦ absurd (other.before p earlier first.repeated)
        | inr not_earlier ↦
            elim (cases_lt q p) [
              | inl later ↦ absurd (first.before q later other.repeated)
              | inr not_later ↦ omega arith
            ]
      ]

  pub none_repeated : (p : ℕ) → AllPairs (λ x y. x.ssrc ≢ y.ssrc) asked → IsFirstRepeated asked p → ⊥
  none_repeated p differ first =
      let none : TmmbrRequest = record { ssrc = 0; exponent = 0; mantissa = 0; overhead = 0 } in
      let earlier = first.repeated in
      differ earlier.0 p none earlier.1 first.in_range (earlier.2 none)

  -- owners differ if each place has no earlier one of its owner
  pub differ_from_none : ((k : ℕ) → k < length asked → ¬ IsRepeated asked k) → AllPairs (λ x y. x.ssrc ≢ y.ssrc) asked
  differ_from_none none = λ i j d before below same.
      let ssrc : TmmbrRequest → ℕ = λ c. c.ssrc in
      none j below
      (i, before, λ e. ap ssrc (get_or_default asked i e d (omega arith)) ∙ same ∙ ap ssrc (get_or_default asked j d e below))
