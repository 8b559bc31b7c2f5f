-- What becomes of an envelope to which a line is added.
use Rattle.std.proofs.Common.{◌≡◌, ℕ, ◌+◌, ◌-◌, ◌*◌, ◌<◌, ◌≤◌, ◌↔◌, Bool, false, IsTrue, List, [], ◌∷◌, ◌++◌, length, get_or, take, inl, inr, refl, ◌∙◌, ap, subst, arith}
use Rattle.std.specs.Prelude.{All}
use Rattle.std.specs.List.{AllWithin}
use Rattle.std.proofs.Math.Nat.{mul-le-mul_left}
use Rattle.std.proofs.lemmas.Bool.{cases_lt, cases_eq}
use Rattle.std.proofs.lemmas.List.{length-append, length-take-le, get_or-take, get_or_append_left, get_or-append_right, get_or_default}
use Rattle.std.proofs.lemmas.List.Elements.{Contains-get_or}
use Rattle.tmmbr_tuple.specs.Tuple.{rate_of}
use Rattle.tmmbr_tuple.specs.RatePair.{RatePair, Permits}
use Rattle.rate_cert.specs.declared.request.Request.{Request}
use Rattle.rate_cert.specs.Requests.{IsFeasible}
use Rattle.rate_cert.proofs.CheckerLemmas.{refuted}
use Rattle.bounding_set.specs.Canonical.{HasSameLine, StopsMedia, ReachesNoFarther}
use Rattle.bounding_set.specs.Envelope.{IsNotAfter, ReachesBeyond, Crosses, Turns, IsHull, Covers, ComesFrom}
use Rattle.bounding_set.specs.Spliced.{ImpliesAlone}
use Rattle.bounding_set.proofs.TurnLemmas.{beyond_beyond, permitted_by_reach}
use Rattle.bounding_set.proofs.EnvelopeLemmas.{CoversBeside}

-- the first elements, and one after them
abbrev pub ends_with : {X : Type 0} → List X → X → ℕ → List X
ends_with xs x count = take count xs ++ x ∷ []

module _ {X : Type 0} (xs : List X) (x : X) (count : ℕ) (within : count ≤ length xs) where
  pub length-ends_with : length (ends_with xs x count) ≡ count + 1
  length-ends_with = length-append (take count xs) (x ∷ []) ∙ ap (λ n. n + 1) (length-take-le count xs within)

  pub at_kept : (k : ℕ) (d : X) → k < count → get_or (ends_with xs x count) k d ≡ get_or xs k d
  at_kept k d below =
      get_or_append_left (take count xs) (x ∷ []) d k (omega (arith, length-take-le count xs within)) ∙ get_or-take count xs k d below

  pub at_end : (d : X) → get_or (ends_with xs x count) count d ≡ x
  at_end d =
      get_or-append_right (take count xs) (x ∷ []) count count d (length-take-le count xs within) (omega arith)
      ∙ ap (λ n. get_or (x ∷ []) n d) {y = 0} (omega arith)

  -- what holds of the first elements and of the last holds of all
  pub All-ends_with : (P : X → Type 0) → AllWithin P xs 0 count → P x → All P (ends_with xs x count)
  All-ends_with P first last = λ k d below.
      elim (cases_lt k count) [
        | inl kept ↦ rw (at_kept k d kept) (first k d (omega arith) kept)
        | inr behind ↦
            let here : k ≡ count = omega (arith, length-ends_with) in
            rw (here, at_end d) last
      ]

  pub first_from_all : (P : X → Type 0) → All P (ends_with xs x count) → AllWithin P xs 0 count
  first_from_all P all = λ k d low below. subst P (at_kept k d below) (all k d (omega (arith, length-ends_with)))

  pub last_from_all : (P : X → Type 0) → All P (ends_with xs x count) → P x
  last_from_all P all = subst P (at_end x) (all count x (omega (arith, length-ends_with)))

-- a test of a slice of the lines
pub tests_last : (slice lines : List Request) (x : Request) (r : Bool) → slice ≡ lines
    → ((d : Request) → 0 < length slice → (IsTrue r ↔ ImpliesAlone (get_or slice (length slice - 1) d).tuple x.tuple))
    → (d : Request) → 0 < length lines → (IsTrue r ↔ ImpliesAlone (get_or lines (length lines - 1) d).tuple x.tuple)
tests_last slice lines x r same tests =
    subst (λ s. (d : Request) → 0 < length s → (IsTrue r ↔ ImpliesAlone (get_or s (length s - 1) d).tuple x.tuple)) same tests

module _ (lines : List Request) (x : Request) (hull : IsHull lines) where
  -- the last line permits a pair of its own reach, and so do all
  reach_pair : Request → RatePair
  reach_pair top = record { packets = rate_of top.tuple; bits = 0; seconds = 8 * top.tuple.overhead }

  reach_is_feasible : (d : Request) → 0 < length lines → IsFeasible lines (reach_pair (get_or lines (length lines - 1) d))
  unfolding reach_pair
  reach_is_feasible d some = λ k e below.
      let top = get_or lines (length lines - 1) d in
      let top_is : get_or lines (length lines - 1) e ≡ top = get_or_default lines (length lines - 1) e d (omega arith) in
      elim (cases_eq k (length lines - 1)) [
        | inl last ↦ rw (last, top_is) (omega arith)
        | inr before ↦
            let crosses : Crosses (get_or lines k e) top = subst (Crosses (get_or lines k e)) top_is (hull.crosses k (length lines - 1) e (omega arith) (omega arith)) in
            omega (arith, crosses.reach)
      ]

  -- so no request that the lines cover has the line of one that the last line reaches beyond
  pub no_same_line : (d : Request) → 0 < length lines → (¬ ReachesNoFarther (get_or lines (length lines - 1) d) x)
      → (z : Request) → Covers lines z → ¬ HasSameLine x z
  unfolding reach_pair
  no_same_line d some beyond z covers same =
      let top = get_or lines (length lines - 1) d in
      let permitted = covers (reach_pair top) (reach_is_feasible d some) in
      let reach : rate_of top.tuple * z.tuple.overhead ≤ rate_of z.tuple * top.tuple.overhead = omega (arith, permitted) in
      beyond (rw (same.rate, same.overhead) reach)

  -- without any line, no request is covered
  pub none_covered : length lines ≡ 0 → (z : Request) → Covers lines z → ⊥
  none_covered none z covers =
      let permitted = covers (record { packets = 0; bits = rate_of z.tuple + 1; seconds = 1 }) (λ k d below. absurd (omega (arith, none))) in
      omega (arith, permitted)

  module _ (last : All (λ l. IsNotAfter l x) lines) where
    -- a line that reaches no farther than x, and whose overhead isn't greater, implies it
    implies_reached : (d : Request) → 0 < length lines → (¬ StopsMedia (get_or lines (length lines - 1) d))
        → ReachesNoFarther (get_or lines (length lines - 1) d) x → ImpliesAlone (get_or lines (length lines - 1) d).tuple x.tuple
    implies_reached d some sends reach = λ p by_top.
        let top = get_or lines (length lines - 1) d in
        let not_after = last (length lines - 1) d (omega arith) in
        permitted_by_reach p.bits p.packets p.seconds top.tuple.overhead (rate_of top.tuple) x.tuple.overhead (rate_of x.tuple)
        not_after.overhead not_after.rate (omega (arith, sends)) reach by_top

    -- so one that was found not to imply it, by a test of a slice of the lines, reaches farther
    pub not_reached : (slice : List Request) (r : Bool) → slice ≡ lines
        → ((d : Request) → 0 < length slice → (IsTrue r ↔ ImpliesAlone (get_or slice (length slice - 1) d).tuple x.tuple)) → r ≡ false
        → All (λ l. ¬ StopsMedia l) lines → (d : Request) → 0 < length lines → ¬ ReachesNoFarther (get_or lines (length lines - 1) d) x
    not_reached slice r same tests is send d some reach =
        refuted r (tests_last slice lines x r same tests d some) is (implies_reached d some (send (length lines - 1) d (omega arith)) reach)

    module _ (beyond : (d : Request) → 0 < length lines → ¬ ReachesNoFarther (get_or lines (length lines - 1) d) x) where
      last_beyond : (d : Request) → 0 < length lines → ReachesBeyond x (get_or lines (length lines - 1) d)
      last_beyond d some =
          let top = get_or lines (length lines - 1) d in
          let not_after = last (length lines - 1) d (omega arith) in
          let farther : rate_of x.tuple * top.tuple.overhead < rate_of top.tuple * x.tuple.overhead =
          elim (cases_lt (rate_of x.tuple * top.tuple.overhead) (rate_of top.tuple * x.tuple.overhead)) [
            | inl less ↦ less
            | inr more ↦ absurd (beyond d some more)
          ] in
          record {
            overhead =
                elim (cases_lt top.tuple.overhead x.tuple.overhead) [
                  | inl less ↦ less
                  | inr more ↦
                      let same : top.tuple.overhead ≡ x.tuple.overhead = omega (arith, not_after.overhead) in
                      let rates = mul-le-mul_left x.tuple.overhead (not_after.rate same) in
                      absurd (beyond d some (rw same (omega (arith, rates))))
                ];
            reach = farther;
          }

      pub all_beyond : All (ReachesBeyond x) lines
      all_beyond = λ k d below.
          let top = get_or lines (length lines - 1) d in
          let of_last = last_beyond d (omega arith) in
          elim (cases_eq k (length lines - 1)) [
            | inl here ↦ rw here of_last
            | inr before ↦
                let l = get_or lines k d in
                let crosses = hull.crosses k (length lines - 1) d (omega arith) (omega arith) in
                record {
                  overhead = omega (arith, crosses.overhead, of_last.overhead);
                  reach = beyond_beyond l.tuple.overhead (rate_of l.tuple) top.tuple.overhead (rate_of top.tuple) x.tuple.overhead (rate_of x.tuple)
                      of_last.overhead crosses.reach of_last.reach;
                }
          ]

      pub ComesFrom-ends_with : (count : ℕ) → count ≤ length lines → All (ComesFrom lines x) (ends_with lines x count)
      ComesFrom-ends_with count within =
          All-ends_with lines x count within (ComesFrom lines x)
          (λ k d low below. inl (Contains-get_or lines k d (omega arith)))
          (inr (
            refl,
            λ z covers same. elim (cases_eq (length lines) 0) [
              | inl none ↦ none_covered none z covers
              | inr some ↦ no_same_line x (omega arith) (beyond x (omega arith)) z covers same
            ],
          ))

  module _ (count : ℕ) (within : count ≤ length lines) where
    pub IsHull-ends_with : All (ReachesBeyond x) lines → AllWithin (λ l. rate_of l.tuple < rate_of x.tuple) lines 0 count
        → ((i j : ℕ) (d : Request) → i < j → j < count → Turns (get_or lines i d) (get_or lines j d) x)
        → IsHull (ends_with lines x count)
    IsHull-ends_with beyond rates turns = record {
      crosses = λ i j d before below.
          let at_i = at_kept lines x count within i d (omega (arith, length-ends_with lines x count within)) in
          elim (cases_lt j count) [
            | inl kept ↦ rw (at_i, at_kept lines x count within j d kept) (hull.crosses i j d before (omega arith))
            | inr behind ↦
                let here : j ≡ count = omega (arith, length-ends_with lines x count within) in
                let is_beyond = beyond i d (omega arith) in
                rw (at_i, here, at_end lines x count within d)
                (record { overhead = is_beyond.overhead; rate = rates i d (omega arith) (omega arith); reach = is_beyond.reach })
          ];
      turns = λ i j k d before then_k below.
          let at_i = at_kept lines x count within i d (omega (arith, length-ends_with lines x count within)) in
          let at_j = at_kept lines x count within j d (omega (arith, length-ends_with lines x count within)) in
          elim (cases_lt k count) [
            | inl kept ↦ rw (at_i, at_j, at_kept lines x count within k d kept) (hull.turns i j k d before then_k (omega arith))
            | inr behind ↦
                let here : k ≡ count = omega (arith, length-ends_with lines x count within) in
                rw (at_i, at_j, here, at_end lines x count within d) (turns i j d before (omega arith))
          ];
    }

    pub Covers-before : CoversBeside lines x count → All (Covers (ends_with lines x count)) lines
    Covers-before covers = λ k d below p feasible.
        covers p (first_from_all lines x count within (λ l. Permits l.tuple p) feasible)
        (last_from_all lines x count within (λ l. Permits l.tuple p) feasible) k d below

-- what the last line implies, the lines cover
pub Covers-implied : (lines : List Request) (x d : Request) → 0 < length lines → ImpliesAlone (get_or lines (length lines - 1) d).tuple x.tuple
    → Covers lines x
Covers-implied lines x d some implied = λ p feasible. implied p (feasible (length lines - 1) d (omega arith))
