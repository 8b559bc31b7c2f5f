-- Which lines of an envelope are needed beside one more, by tests whether two lines imply a third.
use Rattle.std.proofs.Common.{◌≡◌, ℕ, ◌+◌, ◌-◌, ◌*◌, ◌<◌, ◌≤◌, List, length, get_or, inl, inr, arith}
use Rattle.std.specs.Prelude.{All}
use Rattle.std.specs.List.{AllWithin}
use Rattle.std.proofs.lemmas.Bool.{cases_lt, cases_eq}
use Rattle.tmmbr_tuple.specs.Tuple.{rate_of}
use Rattle.tmmbr_tuple.specs.RatePair.{RatePair, Permits}
use Rattle.rate_cert.specs.declared.request.Request.{Request}
use Rattle.rate_cert.specs.Requests.{IsFeasible}
use Rattle.bounding_set.specs.Canonical.{StopsMedia}
use Rattle.bounding_set.specs.Envelope.{IsBehind, Crosses, Turns, IsHull}
use Rattle.bounding_set.specs.Spliced.{ImplyTogether}
use Rattle.bounding_set.proofs.TurnLemmas.{second_below, third_below, beyond_beyond, permitted_between, permitted_by_reach, permitted_by_stricter}
use Rattle.bounding_set.proofs.EnvelopeLemmas.{IsNeededBeside, one_less}
use Rattle.bounding_set.proofs.ImpliesLemmas.{at_any_time}

-- a line between two others that they don't imply turns there
pub turns_from_needed : (s t x : Request) → s.tuple.overhead < t.tuple.overhead → t.tuple.overhead < x.tuple.overhead
    → (¬ ImplyTogether s.tuple x.tuple t.tuple) → Turns s t x
turns_from_needed s t x st tx needed =
    elim (cases_lt
    (x.tuple.overhead * rate_of t.tuple + t.tuple.overhead * rate_of s.tuple + s.tuple.overhead * rate_of x.tuple)
    (x.tuple.overhead * rate_of s.tuple + t.tuple.overhead * rate_of x.tuple + s.tuple.overhead * rate_of t.tuple)) [
      | inl turn ↦ turn
      | inr above ↦ absurd (needed (λ p time by_s by_x. permitted_between p.bits p.packets p.seconds
          s.tuple.overhead t.tuple.overhead x.tuple.overhead (rate_of s.tuple) (rate_of t.tuple) (rate_of x.tuple) st tx above by_s by_x))
    ]

-- one of less overhead that x alone doesn't imply has a lesser rate
pub rises_from_needed : (t x : Request) → t.tuple.overhead < x.tuple.overhead → (¬ ImplyTogether x.tuple x.tuple t.tuple)
    → rate_of t.tuple < rate_of x.tuple
rises_from_needed t x tx needed =
    elim (cases_lt (rate_of t.tuple) (rate_of x.tuple)) [
      | inl less ↦ less
      | inr more ↦ absurd (needed (λ p time by_x again. permitted_by_stricter p.bits p.packets p.seconds
          t.tuple.overhead x.tuple.overhead (rate_of t.tuple) (rate_of x.tuple) (omega arith) more by_x))
    ]

-- one of more overhead that x and another don't imply reaches less far than x
pub reach_from_needed : (x t u : Request) → x.tuple.overhead < t.tuple.overhead → (¬ StopsMedia x) → (¬ ImplyTogether x.tuple u.tuple t.tuple)
    → rate_of t.tuple * x.tuple.overhead < rate_of x.tuple * t.tuple.overhead
reach_from_needed x t u xt sends needed =
    elim (cases_lt (rate_of t.tuple * x.tuple.overhead) (rate_of x.tuple * t.tuple.overhead)) [
      | inl less ↦ less
      | inr more ↦ absurd (needed (λ p time by_x by_u. permitted_by_reach p.bits p.packets p.seconds
          x.tuple.overhead (rate_of x.tuple) t.tuple.overhead (rate_of t.tuple) (omega arith) (λ same. absurd (omega arith))
          (omega (arith, sends)) more by_x))
    ]

pub without_last : (lines : List Request) (x : Request) (needed : ℕ) → 0 < needed → IsNeededBeside lines x needed
    → (needed ≡ 1 → (d : Request) → ImplyTogether x.tuple x.tuple (get_or lines 0 d).tuple)
    → (1 < needed → (d : Request) → ImplyTogether (get_or lines (needed - 2) d).tuple x.tuple (get_or lines (needed - 1) d).tuple)
    → IsNeededBeside lines x (needed - 1)
without_last lines x needed some is one more =
    one_less lines x needed some is (λ p d by_lines by_x. elim (cases_eq needed 1) [
      | inl is_one ↦ rw is_one (at_any_time x.tuple x.tuple (get_or lines 0 d).tuple (one is_one d) p by_x by_x)
      | inr is_more ↦ at_any_time (get_or lines (needed - 2) d).tuple x.tuple (get_or lines (needed - 1) d).tuple (more (omega arith) d)
          p (by_lines (needed - 2) d (omega arith) (omega arith)) by_x
    ])

-- what the last lines, from a place on, and x permit, all lines permit
pub record IsNeededBehind (lines : List Request) (x : Request) (first : ℕ) : Type 0 where
  pub within : first ≤ length lines
  pub covers : (p : RatePair) → AllWithin (λ l. Permits l.tuple p) lines first (length lines) → Permits x.tuple p → IsFeasible lines p

pub without_first : (lines : List Request) (x : Request) (first : ℕ) → first < length lines → IsNeededBehind lines x first
    → (first + 1 ≡ length lines → (d : Request) → ImplyTogether x.tuple x.tuple (get_or lines first d).tuple)
    → (first + 1 < length lines → (d : Request) → ImplyTogether x.tuple (get_or lines (first + 1) d).tuple (get_or lines first d).tuple)
    → IsNeededBehind lines x (first + 1)
without_first lines x first some is last more = record {
  within = omega arith;
  covers = λ p by_lines by_x. is.covers p
      (λ k d low below. elim (cases_eq k first) [
        | inl here ↦ rw here (elim (cases_lt (first + 1) (length lines)) [
          | inl has ↦ at_any_time x.tuple (get_or lines (first + 1) d).tuple (get_or lines first d).tuple (more has d) p by_x (by_lines (first + 1) d (omega arith) has)
          | inr ends ↦ at_any_time x.tuple x.tuple (get_or lines first d).tuple (last (omega arith) d) p by_x by_x
        ])
        | inr other ↦ by_lines k d (omega arith) below
      ])
      by_x;
}

module _ (lines : List Request) (x : Request) (hull : IsHull lines) (behind : All (IsBehind x) lines) (first : ℕ)
    (reach : (d : Request) → first < length lines
    → rate_of (get_or lines first d).tuple * x.tuple.overhead < rate_of x.tuple * (get_or lines first d).tuple.overhead) where
  -- if the first of them reaches less far than x, so do those after it
  pub crosses_behind : AllWithin (Crosses x) lines first (length lines)
  crosses_behind k d low below =
      let t = get_or lines first d in
      let l = get_or lines k d in
      let is_behind = behind k d below in
      record {
        overhead = is_behind.overhead;
        rate = is_behind.rate;
        reach = elim (cases_eq k first) [
          | inl here ↦ rw here (reach d (omega arith))
          | inr after ↦
              let crosses = hull.crosses first k d (omega arith) below in
              beyond_beyond x.tuple.overhead (rate_of x.tuple) t.tuple.overhead (rate_of t.tuple) l.tuple.overhead (rate_of l.tuple)
              crosses.overhead (reach d (omega arith)) crosses.reach
        ];
      }

module _ (lines : List Request) (x : Request) (hull : IsHull lines) (behind : All (IsBehind x) lines) (first : ℕ)
    (more : (d : Request) → first + 1 < length lines → Turns x (get_or lines first d) (get_or lines (first + 1) d)) where
  -- x turns with the first and any after it
  turns_first : (j : ℕ) (d : Request) → first < j → j < length lines → Turns x (get_or lines first d) (get_or lines j d)
  turns_first j d before below =
      let t = get_or lines first d in
      let u = get_or lines (first + 1) d in
      let l = get_or lines j d in
      elim (cases_eq j (first + 1)) [
        | inl next ↦ rw next (more d (omega arith))
        | inr after ↦
            second_below (rate_of x.tuple) (rate_of t.tuple) (rate_of u.tuple) (rate_of l.tuple)
            x.tuple.overhead t.tuple.overhead u.tuple.overhead l.tuple.overhead
            (behind first d (omega arith)).overhead
            (hull.crosses first (first + 1) d (omega arith) (omega arith)).overhead
            (hull.crosses (first + 1) j d (omega arith) below).overhead
            (more d (omega arith)) (hull.turns first (first + 1) j d (omega arith) (omega arith) below)
      ]

  pub turns_behind : (i j : ℕ) (d : Request) → first ≤ i → i < j → j < length lines → Turns x (get_or lines i d) (get_or lines j d)
  turns_behind i j d low before below =
      let t = get_or lines first d in
      let a = get_or lines i d in
      let b = get_or lines j d in
      elim (cases_eq i first) [
        | inl here ↦ rw here (turns_first j d (omega arith) below)
        | inr after ↦
            third_below (rate_of x.tuple) (rate_of t.tuple) (rate_of a.tuple) (rate_of b.tuple)
            x.tuple.overhead t.tuple.overhead a.tuple.overhead b.tuple.overhead
            (behind first d (omega arith)).overhead
            (hull.crosses first i d (omega arith) (omega arith)).overhead
            (hull.crosses i j d before below).overhead
            (turns_first i d (omega arith) (omega arith)) (hull.turns first i j d (omega arith) before below)
      ]
