-- Lines of an envelope: which are needed beside another, and what becomes of it.
use Rattle.std.proofs.Common.{◌≡◌, ℕ, ◌+◌, ◌-◌, ◌<◌, ◌≤◌, List, length, get_or, inl, inr, arith}
use Rattle.std.specs.Prelude.{All}
use Rattle.std.specs.List.{AllWithin}
use Rattle.std.proofs.lemmas.Bool.{cases_eq}
use Rattle.tmmbr_tuple.specs.Tuple.{rate_of}
use Rattle.tmmbr_tuple.specs.RatePair.{RatePair, Permits}
use Rattle.rate_cert.specs.declared.request.Request.{Request}
use Rattle.rate_cert.specs.Requests.{IsFeasible}
use Rattle.bounding_set.specs.Envelope.{ReachesBeyond, Turns, IsHull}
use Rattle.bounding_set.proofs.TurnLemmas.{second_below, third_below, rate_rises}

-- what the first lines and x permit, all lines permit
abbrev pub CoversBeside : List Request → Request → ℕ → Type 0
CoversBeside lines x count = (p : RatePair) → AllWithin (λ l. Permits l.tuple p) lines 0 count → Permits x.tuple p → IsFeasible lines p

pub record IsNeededBeside (lines : List Request) (x : Request) (count : ℕ) : Type 0 where
  pub within : count ≤ length lines
  pub covers : CoversBeside lines x count

-- so one less of them does, if they and x permit it
pub one_less : (lines : List Request) (x : Request) (count : ℕ) → 0 < count → IsNeededBeside lines x count
    → ((p : RatePair) (d : Request) → AllWithin (λ l. Permits l.tuple p) lines 0 (count - 1) → Permits x.tuple p → Permits (get_or lines (count - 1) d).tuple p)
    → IsNeededBeside lines x (count - 1)
one_less lines x count some needed last = record {
  within = omega (arith, needed.within);
  covers = λ p by_lines by_x. needed.covers p
      (λ k d low below. elim (cases_eq k (count - 1)) [
        | inl here ↦ rw here (last p d by_lines by_x)
        | inr other ↦ by_lines k d low (omega arith)
      ])
      by_x;
}

module _ (lines : List Request) (x : Request) (hull : IsHull lines) (beyond : All (ReachesBeyond x) lines) where
  module _ (count : ℕ) (within : count ≤ length lines)
      (one : count ≡ 1 → (d : Request) → rate_of (get_or lines 0 d).tuple < rate_of x.tuple)
      (more : 1 < count → (d : Request) → Turns (get_or lines (count - 2) d) (get_or lines (count - 1) d) x) where
    -- any of them turns with the last and x
    turns_last : (i : ℕ) (d : Request) → i + 1 < count → Turns (get_or lines i d) (get_or lines (count - 1) d) x
    turns_last i d below =
        let s = get_or lines (count - 2) d in
        let t = get_or lines (count - 1) d in
        let last_turn = more (omega arith) d in
        elim (cases_eq i (count - 2)) [
          | inl here ↦ rw here last_turn
          | inr before ↦
              let a = get_or lines i d in
              third_below (rate_of a.tuple) (rate_of s.tuple) (rate_of t.tuple) (rate_of x.tuple)
              a.tuple.overhead s.tuple.overhead t.tuple.overhead x.tuple.overhead
              (hull.crosses i (count - 2) d (omega arith) (omega arith)).overhead
              (hull.crosses (count - 2) (count - 1) d (omega arith) (omega arith)).overhead
              (beyond (count - 1) d (omega arith)).overhead
              (hull.turns i (count - 2) (count - 1) d (omega arith) (omega arith) (omega arith)) last_turn
        ]

    pub needed_turn : (i j : ℕ) (d : Request) → i < j → j < count → Turns (get_or lines i d) (get_or lines j d) x
    needed_turn i j d before below =
        elim (cases_eq j (count - 1)) [
          | inl last ↦ rw last (turns_last i d (omega arith))
          | inr inner ↦
              let a = get_or lines i d in
              let b = get_or lines j d in
              let t = get_or lines (count - 1) d in
              second_below (rate_of a.tuple) (rate_of b.tuple) (rate_of t.tuple) (rate_of x.tuple)
              a.tuple.overhead b.tuple.overhead t.tuple.overhead x.tuple.overhead
              (hull.crosses i j d before (omega arith)).overhead
              (hull.crosses j (count - 1) d (omega arith) (omega arith)).overhead
              (beyond (count - 1) d (omega arith)).overhead
              (hull.turns i j (count - 1) d before (omega arith) (omega arith)) (turns_last j d (omega arith))
        ]

    last_rises : (d : Request) → 0 < count → rate_of (get_or lines (count - 1) d).tuple < rate_of x.tuple
    last_rises d some =
        elim (cases_eq count 1) [
          | inl is_one ↦ rw is_one (one is_one d)
          | inr is_more ↦
              let s = get_or lines (count - 2) d in
              let t = get_or lines (count - 1) d in
              let crosses = hull.crosses (count - 2) (count - 1) d (omega arith) (omega arith) in
              rate_rises (rate_of s.tuple) (rate_of t.tuple) (rate_of x.tuple) s.tuple.overhead t.tuple.overhead x.tuple.overhead
              crosses.overhead (beyond (count - 1) d (omega arith)).overhead (omega (arith, crosses.rate)) (more (omega arith) d)
        ]

    pub needed_rises : AllWithin (λ l. rate_of l.tuple < rate_of x.tuple) lines 0 count
    needed_rises k d low below =
        elim (cases_eq k (count - 1)) [
          | inl last ↦ rw last (last_rises d (omega arith))
          | inr inner ↦ omega (arith, (hull.crosses k (count - 1) d (omega arith) (omega arith)).rate, last_rises d (omega arith))
        ]
