-- Where a line goes in an envelope, and whether it is needed there.
use Rattle.std.proofs.Common.{◌≡◌, ℕ, ◌+◌, ◌-◌, ◌*◌, ◌<◌, ◌≤◌, List, [], ◌∷◌, length, get_or, inl, inr, sym, ◌∙◌, subst, arith}
use Rattle.std.specs.Prelude.{All, min}
use Rattle.std.specs.List.{AllWithin}
use Rattle.std.specs.List.Sorted.{IsNonDecreasingBy}
use Rattle.std.proofs.Math.Nat.{mul-le-mul_right}
use Rattle.std.proofs.lemmas.Bool.{cases_lt, cases_eq}
use Rattle.std.proofs.lemmas.List.{get_or_default}
use Rattle.tmmbr_tuple.specs.Tuple.{rate_of}
use Rattle.rate_cert.specs.declared.request.Request.{Request}
use Rattle.bounding_set.specs.Canonical.{HasSameLine, StopsMedia}
use Rattle.bounding_set.specs.Announced.{IsAboveChord}
use Rattle.bounding_set.specs.Envelope.{IsNotAfter, ReachesBeyond, IsBehind, Crosses, Turns, IsHull, Covers, KeepsLeastOwner}
use Rattle.bounding_set.specs.Place.{IsPlaceOf, IsNeededAt}
use Rattle.bounding_set.specs.Spliced.{ImplyTogether}
use Rattle.bounding_set.proofs.TurnLemmas.{IsBelowChord, beyond_beyond, permitted_by_stricter}
use Rattle.bounding_set.proofs.BesideLemmas.{turns_from_needed, rises_from_needed, reach_from_needed}
use Rattle.bounding_set.proofs.SpliceTurns.{rate_below, reach_below, still_below, turns_from_left, turns_to_right, rate_at_end}
use Rattle.bounding_set.proofs.EndLemmas.{left_of_crossing, IsAboveChord-from_end}
use Rattle.bounding_set.proofs.EssentialLemmas.{chords}
use Rattle.bounding_set.proofs.AddLemmas.{none_covered, no_same_line}

pub overheads_rise : (lines : List Request) → IsHull lines → IsNonDecreasingBy (λ (l : Request). l.tuple.overhead) lines
overheads_rise lines hull i j d le below =
    elim (cases_eq i j) [
      | inl same ↦ rw same (omega arith)
      | inr before ↦ omega (arith, (hull.crosses i j d (omega (arith, before)) below).overhead)
    ]

-- a line that is put in without any test has no neighbour, and stands alone then
pub alone_untested : (new low high old at from slice start middle last : ℕ) → new + high ≡ low + old + 1 → low ≤ at → from ≤ high → slice ≡ old
    → high ≤ old → start ≤ middle → (0 < at → middle + 1 ≤ last) → (from < slice → middle + 1 ≤ last) → last ≡ start → new ≤ 1
alone_untested new low high old at from slice start middle last long before behind same in_range counted asked asked_behind none =
    elim (cases_lt 0 at) [
      | inl some ↦ absurd (omega (arith, asked some))
      | inr first ↦ elim (cases_lt from slice) [
        | inl some ↦ absurd (omega (arith, asked_behind some))
        | inr end ↦ omega arith
      ]
    ]

-- by one line more than the tests at most the lines grow, one put in after the other
pub grown : (now start first count new after : ℕ) → first ≤ count → now + first ≤ start + count + 1 → new ≤ now + 1 → count ≤ after
    → (after ≡ count → now < new → new ≤ 1) → new + first ≤ start + after + 1
grown now start first count new after risen grows one_more counted untested =
    elim (cases_eq after count) [
      | inr tested ↦ omega arith
      | inl same ↦ elim (cases_lt now new) [
        | inl more ↦ omega (arith, untested same more)
        | inr fewer ↦ omega arith
      ]
    ]

-- no two lines have one overhead
pub one_of_overhead : (lines : List Request) (x : Request) (at from : ℕ) → IsHull lines → IsPlaceOf lines x at from → from ≤ at + 1
one_of_overhead lines x at from hull place =
    elim (cases_lt (at + 1) from) [
      | inr few ↦ few
      | inl more ↦
          let first = place.same at x (omega arith) (omega (arith, more)) in
          let second = place.same (at + 1) x (omega arith) more in
          let rise = (hull.crosses at (at + 1) x (omega arith) (omega (arith, more, place.in_range))).overhead in
          absurd (omega (arith, first, second, rise))
    ]

-- the two counts say where x goes
pub place_from_counts : (lines : List Request) (x : Request) (at from : ℕ) → at ≤ length lines → from ≤ length lines
    → AllWithin (λ l. l.tuple.overhead < x.tuple.overhead) lines 0 at
    → AllWithin (λ l. x.tuple.overhead ≤ l.tuple.overhead) lines at (length lines)
    → AllWithin (λ l. l.tuple.overhead ≤ x.tuple.overhead) lines 0 from
    → AllWithin (λ l. x.tuple.overhead < l.tuple.overhead) lines from (length lines)
    → IsPlaceOf lines x at from
place_from_counts lines x at from at_in from_in less no_less no_more more = record {
  rising =
      elim (cases_lt from at) [
        | inr le ↦ le
        | inl past ↦ absurd (omega (arith, less from x (omega arith) past, more from x (omega arith) (omega arith)))
      ];
  in_range = from_in;
  before = less;
  same = λ k d low below. omega (arith, no_less k d low (omega arith), no_more k d (omega arith) below);
  behind = more;
}

module _ (lines : List Request) (hull : IsHull lines) where
  -- without packets the first line is the lowest
  first_lowest : (d z : Request) → 0 < length lines → Covers lines z → rate_of (get_or lines 0 d).tuple ≤ rate_of z.tuple
  first_lowest d z some covers =
      let first = get_or lines 0 d in
      let permitted = covers (record { packets = 0; bits = rate_of first.tuple; seconds = 1 }) (λ k e below.
      let first_is : get_or lines 0 e ≡ first = get_or_default lines 0 e d some in
      elim (cases_eq k 0) [
        | inl here ↦ rw (here, first_is) (omega arith)
        | inr behind ↦
            let crosses : Crosses first (get_or lines k e) =
            subst (λ l. Crosses l (get_or lines k e)) first_is (hull.crosses 0 k e (omega (arith, behind)) below) in
            omega (arith, crosses.rate)
      ]) in
      omega (arith, permitted)

  -- what the lines cover isn't below the chord of two neighbours
  above_chord : (j : ℕ) (d z : Request) → j + 1 < length lines → Covers lines z → IsAboveChord (get_or lines j d) (get_or lines (j + 1) d) z
  above_chord j d z next covers =
      let a = get_or lines j d in
      let b = get_or lines (j + 1) d in
      let crosses = hull.crosses j (j + 1) d (omega arith) next in
      let only : All (Covers lines) (z ∷ []) = λ k e below.
      let first : k ≡ 0 = omega arith in
      rw first covers in
      IsAboveChord-from_end a b crosses (z ∷ []) (left_of_crossing a b crosses (z ∷ []) lines only (chords lines hull j d next)) 0 z (omega arith)

module _ (lines : List Request) (x : Request) (hull : IsHull lines) (at : ℕ) (place : IsPlaceOf lines x at at) where
  pub needed_in_none : length lines ≡ 0 → IsNeededAt lines x at at
  needed_in_none none = record {
    beyond = λ k d low below. absurd (omega (arith, none, place.in_range));
    behind = λ k d low below. absurd (omega (arith, none));
    first = λ k d low below. absurd (omega arith);
    turns = λ i j d before behind below. absurd (omega (arith, none));
    new = λ z covers same. absurd (none_covered lines x hull none z covers);
  }

  needed_first : at ≡ 0 → 0 < length lines → rate_of x.tuple < rate_of (get_or lines 0 x).tuple → IsNeededAt lines x at at
  needed_first first some less = record {
    beyond = λ k d low below. absurd (omega (arith, first));
    behind = λ k d low below. record {
      overhead = place.behind k d low below;
      rate = elim (cases_eq k 0) [
        | inl here ↦
            let is : get_or lines 0 d ≡ get_or lines 0 x = get_or_default lines 0 d x some in
            rw (here, is) less
        | inr later ↦
            let is : get_or lines 0 d ≡ get_or lines 0 x = get_or_default lines 0 d x some in
            let crosses : Crosses (get_or lines 0 x) (get_or lines k d) = subst (λ l. Crosses l (get_or lines k d)) is (hull.crosses 0 k d (omega (arith, later)) below) in
            omega (arith, crosses.rate, less)
      ];
    };
    first = λ k d low below. absurd (omega arith);
    turns = λ i j d before behind below. absurd (omega (arith, first));
    new = λ z covers same. absurd (omega (arith, first_lowest lines hull x z some covers, same.rate, less));
  }

  needed_last : at ≡ length lines → 0 < length lines → ReachesBeyond x (get_or lines (length lines - 1) x) → IsNeededAt lines x at at
  needed_last last some of_top = record {
    beyond = λ k d low below.
        let top = get_or lines (length lines - 1) x in
        let l = get_or lines k d in
        let top_is : get_or lines (length lines - 1) d ≡ top = get_or_default lines (length lines - 1) d x (omega arith) in
        elim (cases_eq k (length lines - 1)) [
          | inl here ↦ rw (here, top_is) of_top
          | inr before ↦
              let crosses : Crosses l top = subst (Crosses l) top_is (hull.crosses k (length lines - 1) d (omega (arith, before, last)) (omega arith)) in
              record {
                overhead = place.before k d low below;
                reach = beyond_beyond l.tuple.overhead (rate_of l.tuple) top.tuple.overhead (rate_of top.tuple) x.tuple.overhead (rate_of x.tuple)
                    of_top.overhead crosses.reach of_top.reach;
              }
        ];
    behind = λ k d low below. absurd (omega (arith, last));
    first = λ k d low below. absurd (omega arith);
    turns = λ i j d before behind below. absurd (omega (arith, last));
    new = λ z covers same. absurd (no_same_line lines x hull x some (λ no_farther. omega (arith, no_farther, of_top.reach)) z covers same);
  }

  module _ (some : 0 < at) (within : at < length lines) (turn : (d : Request) → Turns (get_or lines (at - 1) d) x (get_or lines at d)) where
    neighbours : (d : Request) → Crosses (get_or lines (at - 1) d) (get_or lines at d)
    neighbours d = hull.crosses (at - 1) at d (omega arith) within

    after_left : (d : Request) → (get_or lines (at - 1) d).tuple.overhead < x.tuple.overhead
    after_left d = place.before (at - 1) d (omega arith) (omega arith)

    before_right : (d : Request) → x.tuple.overhead < (get_or lines at d).tuple.overhead
    before_right d = place.behind at d (omega arith) within

    left_beyond : (d : Request) → ReachesBeyond x (get_or lines (at - 1) d)
    left_beyond d =
        let a = get_or lines (at - 1) d in
        let b = get_or lines at d in
        record {
          overhead = after_left d;
          reach = reach_below (rate_of a.tuple) (rate_of x.tuple) (rate_of b.tuple) a.tuple.overhead x.tuple.overhead b.tuple.overhead
              (after_left d) (before_right d) (neighbours d).reach (turn d);
        }

    right_behind : (d : Request) → IsBehind x (get_or lines at d)
    right_behind d =
        let a = get_or lines (at - 1) d in
        let b = get_or lines at d in
        record {
          overhead = before_right d;
          rate = rate_below (rate_of a.tuple) (rate_of x.tuple) (rate_of b.tuple) a.tuple.overhead x.tuple.overhead b.tuple.overhead
              (after_left d) (before_right d) (neighbours d).rate (turn d);
        }

    all_beyond_here : AllWithin (ReachesBeyond x) lines 0 at
    all_beyond_here k d low below =
        elim (cases_eq k (at - 1)) [
          | inl here ↦ rw here (left_beyond d)
          | inr before ↦
              let l = get_or lines k d in
              let a = get_or lines (at - 1) d in
              let of_left = left_beyond d in
              let crosses = hull.crosses k (at - 1) d (omega (arith, before)) (omega arith) in
              record {
                overhead = place.before k d low below;
                reach = beyond_beyond l.tuple.overhead (rate_of l.tuple) a.tuple.overhead (rate_of a.tuple) x.tuple.overhead (rate_of x.tuple)
                    of_left.overhead crosses.reach of_left.reach;
              }
        ]

    all_behind_here : AllWithin (IsBehind x) lines at (length lines)
    all_behind_here k d low below =
        elim (cases_eq k at) [
          | inl here ↦ rw here (right_behind d)
          | inr later ↦
              let of_right = right_behind d in
              let crosses = hull.crosses at k d (omega (arith, later)) below in
              record { overhead = place.behind k d low below; rate = omega (arith, of_right.rate, crosses.rate) }
        ]

    -- any line on the left turns at x to the right neighbour
    turn_from : (i : ℕ) (d : Request) → i < at → Turns (get_or lines i d) x (get_or lines at d)
    turn_from i d before =
        elim (cases_eq i (at - 1)) [
          | inl here ↦ rw here (turn d)
          | inr far ↦
              let l = get_or lines i d in
              let a = get_or lines (at - 1) d in
              let b = get_or lines at d in
              turns_from_left (rate_of l.tuple) (rate_of a.tuple) (rate_of x.tuple) (rate_of b.tuple)
              l.tuple.overhead a.tuple.overhead x.tuple.overhead b.tuple.overhead
              (hull.crosses i (at - 1) d (omega (arith, far)) (omega arith)).overhead (after_left d) (before_right d)
              (hull.turns i (at - 1) at d (omega (arith, far)) (omega arith) within) (turn d)
        ]

    turn_between : (i j : ℕ) (d : Request) → i < at → at ≤ j → j < length lines → Turns (get_or lines i d) x (get_or lines j d)
    turn_between i j d before behind below =
        elim (cases_eq j at) [
          | inl here ↦ rw here (turn_from i d before)
          | inr far ↦
              let l = get_or lines i d in
              let b = get_or lines at d in
              let r = get_or lines j d in
              turns_to_right (rate_of l.tuple) (rate_of x.tuple) (rate_of b.tuple) (rate_of r.tuple)
              l.tuple.overhead x.tuple.overhead b.tuple.overhead r.tuple.overhead
              (place.before i d (omega arith) before) (before_right d) (hull.crosses at j d (omega (arith, far)) below).overhead
              (turn_from i d before) (hull.turns i at j d before (omega (arith, far)) below)
        ]

    -- what the lines cover doesn't have the line of x
    none_has_line : (z : Request) → Covers lines z → ¬ HasSameLine x z
    none_has_line z covers same =
        let a = get_or lines (at - 1) x in
        let b = get_or lines at x in
        let covers_x : Covers lines x = λ p feasible.
        permitted_by_stricter p.bits p.packets p.seconds x.tuple.overhead z.tuple.overhead (rate_of x.tuple) (rate_of z.tuple)
        (omega (arith, same.overhead)) (omega (arith, same.rate)) (covers p feasible) in
        let next : (at - 1) + 1 ≡ at = omega arith in
        let above : IsAboveChord a b x = subst (λ n. IsAboveChord a (get_or lines n x) x) next
        (above_chord lines hull (at - 1) x x (omega arith) covers_x) in
        omega (arith, above, turn x)

    needed_between : IsNeededAt lines x at at
    needed_between = record {
      beyond = all_beyond_here;
      behind = all_behind_here;
      first = λ k d low below. absurd (omega arith);
      turns = turn_between;
      new = λ z covers same. absurd (none_has_line z covers same);
    }

  -- if the neighbours, or at an end the one, don't imply it, x is needed
  module _ (send : All (λ l. ¬ StopsMedia l) lines) (some : 0 < length lines) (a b : Request)
      (a_is : (d : Request) → a ≡ get_or lines (at - 1) d) (b_is : (d : Request) → b ≡ get_or lines (min at (length lines - 1)) d)
      (not_implied : ¬ ImplyTogether a.tuple b.tuple x.tuple) where
    less_at_start : at ≡ 0 → rate_of x.tuple < rate_of (get_or lines 0 x).tuple
    less_at_start first =
        let a_here : a ≡ get_or lines 0 x = subst (λ n. a ≡ get_or lines n x) {x = at - 1} (omega (arith, first)) (a_is x) in
        let b_here : b ≡ get_or lines 0 x = subst (λ n. b ≡ get_or lines n x) {x = min at (length lines - 1)} (omega (arith, first)) (b_is x) in
        rises_from_needed x (get_or lines 0 x) (place.behind 0 x (omega (arith, first)) some)
        (subst (λ (l : Request). ¬ ImplyTogether l.tuple (get_or lines 0 x).tuple x.tuple) a_here
        (subst (λ (l : Request). ¬ ImplyTogether a.tuple l.tuple x.tuple) b_here not_implied))

    beyond_at_end : at ≡ length lines → ReachesBeyond x (get_or lines (length lines - 1) x)
    beyond_at_end last =
        let top = get_or lines (length lines - 1) x in
        let here : a ≡ top = subst (λ n. a ≡ get_or lines n x) {x = at - 1} (omega (arith, last)) (a_is x) in
        let less : top.tuple.overhead < x.tuple.overhead = place.before (length lines - 1) x (omega arith) (omega (arith, last)) in
        record {
          overhead = less;
          reach = reach_from_needed top x b less (send (length lines - 1) x (omega arith))
              (subst (λ (l : Request). ¬ ImplyTogether l.tuple b.tuple x.tuple) here not_implied);
        }

    turn_at : 0 < at → at < length lines → (d : Request) → Turns (get_or lines (at - 1) d) x (get_or lines at d)
    turn_at inner within d =
        let b_here : b ≡ get_or lines at d = subst (λ n. b ≡ get_or lines n d) {x = min at (length lines - 1)} (omega arith) (b_is d) in
        turns_from_needed (get_or lines (at - 1) d) x (get_or lines at d)
        (place.before (at - 1) d (omega arith) (omega arith)) (place.behind at d (omega arith) within)
        (subst (λ (l : Request). ¬ ImplyTogether l.tuple (get_or lines at d).tuple x.tuple) (a_is d)
        (subst (λ (l : Request). ¬ ImplyTogether a.tuple l.tuple x.tuple) b_here not_implied))

    pub needed_from_test : IsNeededAt lines x at at
    needed_from_test =
        elim (cases_eq at 0) [
          | inl first ↦ needed_first first some (less_at_start first)
          | inr inner ↦ elim (cases_eq at (length lines)) [
            | inl last ↦ needed_last last some (beyond_at_end last)
            | inr within ↦
                let before_end : at < length lines = omega (arith, within, place.in_range) in
                let behind_start : 0 < at = omega (arith, inner) in
                needed_between behind_start before_end (turn_at behind_start before_end)
          ]
        ]

-- a line of the same overhead stands there
module _ (lines : List Request) (x : Request) (hull : IsHull lines) (at from : ℕ) (place : IsPlaceOf lines x at from) (some : at < from) where
  overhead_at : (d : Request) → (get_or lines at d).tuple.overhead ≡ x.tuple.overhead
  overhead_at d = place.same at d (omega arith) some

  at_in_range : at < length lines
  at_in_range = omega (arith, place.in_range)

  only_one : from ≡ at + 1
  only_one =
      elim (cases_eq from (at + 1)) [
        | inl one ↦ one
        | inr more ↦ absurd (omega (
          arith,
          (hull.crosses at (at + 1) x (omega arith) (omega (arith, more, place.in_range))).overhead,
          overhead_at x,
          place.same (at + 1) x (omega arith) (omega (arith, more)),
        ))
      ]

  -- what has the line of x stands there
  only_there : (k : ℕ) (d : Request) → k < length lines → (get_or lines k d).tuple.overhead ≡ x.tuple.overhead → k ≡ at
  only_there k d below same =
      elim (cases_lt k at) [
        | inl less ↦ absurd (omega (arith, place.before k d (omega arith) less))
        | inr no_less ↦ elim (cases_lt k from) [
          | inl there ↦ omega (arith, only_one)
          | inr more ↦ absurd (omega (arith, place.behind k d more below))
        ]
      ]

  pub least_from_first : ((d : Request) → IsNotAfter (get_or lines at d) x) → KeepsLeastOwner lines x
  least_from_first first k d below same =
      let here : k ≡ at = only_there k d below same.overhead in
      let owners = (first d).owner (subst (λ n. (get_or lines n d).tuple.overhead ≡ x.tuple.overhead) here same.overhead)
      (subst (λ n. rate_of (get_or lines n d).tuple ≡ rate_of x.tuple) here same.rate) in
      rw here owners

  module _ (first : (d : Request) → IsNotAfter x (get_or lines at d)) where
    no_more_rate : (d : Request) → rate_of x.tuple ≤ rate_of (get_or lines at d).tuple
    no_more_rate d = (first d).rate (sym (overhead_at d))

    -- the lines that it covers have no lesser rate at that overhead
    covered_rate : (z : Request) → Covers lines z → z.tuple.overhead ≡ x.tuple.overhead → rate_of (get_or lines at x).tuple ≤ rate_of z.tuple
    covered_rate z covers same =
        elim (cases_eq at 0) [
          | inl start ↦ rw start (first_lowest lines hull x z (omega (arith, at_in_range)) covers)
          | inr inner ↦
              let a = get_or lines (at - 1) x in
              let s = get_or lines at x in
              let next : (at - 1) + 1 ≡ at = omega (arith, inner) in
              let chord : IsAboveChord a s z = subst (λ n. IsAboveChord a (get_or lines n x) z) next
              (above_chord lines hull (at - 1) x z (omega (arith, at_in_range, inner)) covers) in
              let here : z.tuple.overhead ≡ s.tuple.overhead = same ∙ sym (overhead_at x) in
              rate_at_end a.tuple.overhead s.tuple.overhead (rate_of a.tuple) (rate_of s.tuple) (rate_of z.tuple)
              (hull.crosses (at - 1) at x (omega (arith, inner)) at_in_range).overhead
              (subst (λ h. s.tuple.overhead * rate_of a.tuple + h * rate_of s.tuple + a.tuple.overhead * rate_of z.tuple
              ≤ s.tuple.overhead * rate_of z.tuple + h * rate_of a.tuple + a.tuple.overhead * rate_of s.tuple) here chord)
        ]

    pub needed_from_first : IsNeededAt lines x at from
    needed_from_first = record {
      beyond = λ k d low below.
          let l = get_or lines k d in
          let s = get_or lines at d in
          let crosses = hull.crosses k at d below at_in_range in
          let reach : rate_of s.tuple * l.tuple.overhead < rate_of l.tuple * x.tuple.overhead =
          subst (λ h. rate_of s.tuple * l.tuple.overhead < rate_of l.tuple * h) (overhead_at d) crosses.reach in
          record {
            overhead = place.before k d low below;
            reach = omega (arith, reach, mul-le-mul_right l.tuple.overhead (no_more_rate d));
          };
      behind = λ k d low below.
          let crosses = hull.crosses at k d (omega arith) below in
          record { overhead = place.behind k d low below; rate = omega (arith, crosses.rate, no_more_rate d) };
      first = λ k d low below.
          let here : k ≡ at = omega (arith, only_one) in
          rw here (first d);
      turns = λ i j d before behind below.
          let l = get_or lines i d in
          let s = get_or lines at d in
          let r = get_or lines j d in
          let turn : IsBelowChord l.tuple.overhead (rate_of l.tuple) x.tuple.overhead (rate_of s.tuple) r.tuple.overhead (rate_of r.tuple) =
          subst (λ h. IsBelowChord l.tuple.overhead (rate_of l.tuple) h (rate_of s.tuple) r.tuple.overhead (rate_of r.tuple)) (overhead_at d)
          (hull.turns i at j d before (omega arith) below) in
          still_below (rate_of l.tuple) (rate_of x.tuple) (rate_of r.tuple) l.tuple.overhead x.tuple.overhead r.tuple.overhead (rate_of s.tuple)
          (place.before i d (omega arith) before) (place.behind j d behind below) (no_more_rate d) turn;
      new = λ z covers same.
          let s = get_or lines at x in
          let rates : rate_of x.tuple ≡ rate_of s.tuple = omega (arith, covered_rate z covers (sym same.overhead), same.rate, no_more_rate x) in
          let overheads : x.tuple.overhead ≡ s.tuple.overhead = sym (overhead_at x) in
          (at, s, at_in_range, get_or_default lines at s x at_in_range, (record { rate = rates; overhead = overheads }, (first x).owner overheads rates));
    }
