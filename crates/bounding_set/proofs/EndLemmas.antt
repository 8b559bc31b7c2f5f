-- The ends of a line on a hull, and the pair between them that it alone forbids.
use Rattle.std.proofs.Common.{◌≡◌, ℕ, ◌+◌, ◌-◌, ◌*◌, ◌<◌, ◌≤◌, List, get_or, inl, inr, ap, subst, arith}
use Rattle.std.specs.Prelude.{All}
use Rattle.std.proofs.Math.Nat.{mul-le-mul_right}
use Rattle.std.proofs.lemmas.Bool.{cases_lt, cases_eq}
use Rattle.tmmbr_tuple.specs.Tuple.{rate_of}
use Rattle.tmmbr_tuple.specs.RatePair.{RatePair, Permits, Forbids}
use Rattle.rate_cert.specs.declared.request.Request.{Request}
use Rattle.bounding_set.specs.Canonical.{HasSameLine}
use Rattle.bounding_set.specs.Certificate.{End, crossing_of, reach_of, pair_between}
use Rattle.bounding_set.specs.Announced.{IsAboveChord}
use Rattle.bounding_set.specs.Envelope.{Crosses, Turns, Covers}

-- x is nowhere above the rows at this end, which lies within its line
pub record IsLowestEnd (rows : List Request) (x : Request) (e : End) : Type 0 where
  pub within : 8 * x.tuple.overhead * e.upper ≤ rate_of x.tuple * e.lower
  pub lowest : All (λ y. rate_of x.tuple * e.lower + 8 * y.tuple.overhead * e.upper ≤ rate_of y.tuple * e.lower + 8 * x.tuple.overhead * e.upper) rows

-- what lines are nowhere below, the rows that they cover aren't
lowest_at : (lines : List Request) (x y : Request) (e : End) (bits : ℕ) → Covers lines y
    → bits + 8 * x.tuple.overhead * e.upper ≡ rate_of x.tuple * e.lower
    → All (λ l. rate_of x.tuple * e.lower + 8 * l.tuple.overhead * e.upper ≤ rate_of l.tuple * e.lower + 8 * x.tuple.overhead * e.upper) lines
    → rate_of x.tuple * e.lower + 8 * y.tuple.overhead * e.upper ≤ rate_of y.tuple * e.lower + 8 * x.tuple.overhead * e.upper
lowest_at lines x y e bits covers bits_is lowest =
    let permitted : bits + 8 * y.tuple.overhead * e.upper ≤ rate_of y.tuple * e.lower =
    covers (record { packets = e.upper; bits = bits; seconds = e.lower }) (λ j d below. omega (arith, bits_is, lowest j d below)) in
    omega (arith, bits_is, permitted)

pub IsLowestEnd-from_covers : (rows lines : List Request) (x : Request) (e : End) → All (Covers lines) rows
    → 8 * x.tuple.overhead * e.upper ≤ rate_of x.tuple * e.lower
    → All (λ l. rate_of x.tuple * e.lower + 8 * l.tuple.overhead * e.upper ≤ rate_of l.tuple * e.lower + 8 * x.tuple.overhead * e.upper) lines
    → IsLowestEnd rows x e
IsLowestEnd-from_covers rows lines x e covers within lowest = record {
  within = within;
  lowest = λ k d below.
      let bits = rate_of x.tuple * e.lower - 8 * x.tuple.overhead * e.upper in
      let bits_is : bits + 8 * x.tuple.overhead * e.upper ≡ rate_of x.tuple * e.lower = omega (arith, within) in
      lowest_at lines x (get_or rows k d) e bits (covers k d below) bits_is lowest;
}

-- two lines with their differences
module _ (ha hb ra rb v u : ℕ) (hv : ha + v ≡ hb) (ru : ra + u ≡ rb) where
  lowest_from_chord : (hl rl : ℕ) → hb * ra + hl * rb + ha * rl ≤ hb * rl + hl * ra + ha * rb → ra * (8 * v) + 8 * hl * u ≤ rl * (8 * v) + 8 * ha * u
  lowest_from_chord hl rl chord =
      omega (arith, chord, ap (λ z. z * ra) hv, ap (λ z. z * rl) hv, ap (λ z. hl * z) ru, ap (λ z. ha * z) ru)

  chord_from_lowest : (hl rl : ℕ) → ra * (8 * v) + 8 * hl * u ≤ rl * (8 * v) + 8 * ha * u → hb * ra + hl * rb + ha * rl ≤ hb * rl + hl * ra + ha * rb
  chord_from_lowest hl rl lowest =
      omega (arith, lowest, ap (λ z. z * ra) hv, ap (λ z. z * rl) hv, ap (λ z. hl * z) ru, ap (λ z. ha * z) ru)

  -- at their crossing they are equally high
  lowest_right : (hl rl : ℕ) → ra * (8 * v) + 8 * hl * u ≤ rl * (8 * v) + 8 * ha * u → rb * (8 * v) + 8 * hl * u ≤ rl * (8 * v) + 8 * hb * u
  lowest_right hl rl lowest = omega (arith, lowest, ap (λ z. z * v) ru, ap (λ z. z * u) hv)

  within_left : rb * ha < ra * hb → 8 * ha * u ≤ ra * (8 * v)
  within_left reach = omega (arith, reach, ap (λ z. ha * z) ru, ap (λ z. ra * z) hv)

  within_right : rb * ha < ra * hb → 8 * hb * u ≤ rb * (8 * v)
  within_right reach = omega (arith, reach, ap (λ z. hb * z) ru, ap (λ z. rb * z) hv)

  -- their crossing comes before the reach of the second
  before_reach : rb * ha < ra * hb → u * (8 * hb) < rb * (8 * v)
  before_reach reach = omega (arith, reach, ap (λ z. z * hb) ru, ap (λ z. rb * z) hv)

  -- and before the crossing with a third after a turn
  before_crossing : (hc rc w t : ℕ) → hb + w ≡ hc → rb + t ≡ rc → hc * rb + hb * ra + ha * rc < hc * ra + hb * rc + ha * rb → u * (8 * w) < t * (8 * v)
  before_crossing hc rc w t hw rt turn =
      omega (
        arith,
        turn,
        ap (λ z. hc * z) ru,
        ap (λ z. hb * z) rt,
        ap (λ z. hb * z) ru,
        ap (λ z. ha * z) rt,
        ap (λ z. z * u) hw,
        ap (λ z. z * t) hv,
      )

-- the differences of two lines that cross
module _ (a b : Request) (crosses : Crosses a b) where
  overheads : a.tuple.overhead + (b.tuple.overhead - a.tuple.overhead) ≡ b.tuple.overhead
  overheads = omega (arith, crosses.overhead)

  rates : rate_of a.tuple + (rate_of b.tuple - rate_of a.tuple) ≡ rate_of b.tuple
  rates = omega (arith, crosses.rate)

  module _ (rows lines : List Request) (covers : All (Covers lines) rows) (chord : All (IsAboveChord a b) lines) where
    lowest_left : All (λ l. rate_of a.tuple * (crossing_of a b).lower + 8 * l.tuple.overhead * (crossing_of a b).upper
        ≤ rate_of l.tuple * (crossing_of a b).lower + 8 * a.tuple.overhead * (crossing_of a b).upper) lines
    lowest_left = λ k d below.
        lowest_from_chord a.tuple.overhead b.tuple.overhead (rate_of a.tuple) (rate_of b.tuple) (b.tuple.overhead - a.tuple.overhead)
        (rate_of b.tuple - rate_of a.tuple) overheads rates (get_or lines k d).tuple.overhead (rate_of (get_or lines k d).tuple) (chord k d below)

    pub left_of_crossing : IsLowestEnd rows a (crossing_of a b)
    left_of_crossing =
        IsLowestEnd-from_covers rows lines a (crossing_of a b) covers
        (within_left a.tuple.overhead b.tuple.overhead (rate_of a.tuple) (rate_of b.tuple) (b.tuple.overhead - a.tuple.overhead)
        (rate_of b.tuple - rate_of a.tuple) overheads rates crosses.reach)
        lowest_left

    pub right_of_crossing : IsLowestEnd rows b (crossing_of a b)
    right_of_crossing =
        IsLowestEnd-from_covers rows lines b (crossing_of a b) covers
        (within_right a.tuple.overhead b.tuple.overhead (rate_of a.tuple) (rate_of b.tuple) (b.tuple.overhead - a.tuple.overhead)
        (rate_of b.tuple - rate_of a.tuple) overheads rates crosses.reach)
        (λ k d below. lowest_right a.tuple.overhead b.tuple.overhead (rate_of a.tuple) (rate_of b.tuple) (b.tuple.overhead - a.tuple.overhead)
        (rate_of b.tuple - rate_of a.tuple) overheads rates (get_or lines k d).tuple.overhead (rate_of (get_or lines k d).tuple) (lowest_left k d below))

  -- a row that the left end of the second doesn't pass isn't below the chord
  pub IsAboveChord-from_end : (rows : List Request) → IsLowestEnd rows a (crossing_of a b) → All (IsAboveChord a b) rows
  IsAboveChord-from_end rows is_end = λ k d below.
      chord_from_lowest a.tuple.overhead b.tuple.overhead (rate_of a.tuple) (rate_of b.tuple) (b.tuple.overhead - a.tuple.overhead)
      (rate_of b.tuple - rate_of a.tuple) overheads rates (get_or rows k d).tuple.overhead (rate_of (get_or rows k d).tuple) (is_end.lowest k d below)

-- one end before another
abbrev pub IsBefore : End → End → Type 0
IsBefore l r = l.upper * r.lower < r.upper * l.lower

pub crossing_before_reach : (a b : Request) → Crosses a b → IsBefore (crossing_of a b) (reach_of b)
crossing_before_reach a b crosses =
    before_reach a.tuple.overhead b.tuple.overhead (rate_of a.tuple) (rate_of b.tuple) (b.tuple.overhead - a.tuple.overhead)
    (rate_of b.tuple - rate_of a.tuple) (overheads a b crosses) (rates a b crosses) crosses.reach

pub crossing_before_crossing : (a b c : Request) → Crosses a b → Crosses b c → Turns a b c → IsBefore (crossing_of a b) (crossing_of b c)
crossing_before_crossing a b c ab bc turn =
    before_crossing a.tuple.overhead b.tuple.overhead (rate_of a.tuple) (rate_of b.tuple) (b.tuple.overhead - a.tuple.overhead)
    (rate_of b.tuple - rate_of a.tuple) (overheads a b ab) (rates a b ab) c.tuple.overhead (rate_of c.tuple)
    (c.tuple.overhead - b.tuple.overhead) (rate_of c.tuple - rate_of b.tuple) (overheads b c bc) (rates b c bc) turn

-- Two lines that are equally high at two ends are one.
module _ (h r k s lu ll ru rl t : ℕ) (before : lu * rl + t ≡ ru * ll) (some : 1 ≤ t) (left : r * ll + 8 * k * lu ≡ s * ll + 8 * h * lu) (right : r * rl + 8 * k * ru ≡ s * rl + 8 * h * ru) where
  no_less_rate : (r < s) → ⊥
  no_less_rate less =
      omega (
        arith,
        some,
        ap (λ z. r * z) before,
        ap (λ z. s * z) before,
        ap (λ z. z * ru) left,
        ap (λ z. z * lu) right,
        mul-le-mul_right t less,
      )

  no_more_rate : (s < r) → ⊥
  no_more_rate more =
      omega (
        arith,
        some,
        ap (λ z. r * z) before,
        ap (λ z. s * z) before,
        ap (λ z. z * ru) left,
        ap (λ z. z * lu) right,
        mul-le-mul_right t more,
      )

  no_less_overhead : (h < k) → ⊥
  no_less_overhead less =
      omega (
        arith,
        some,
        ap (λ z. h * z) before,
        ap (λ z. k * z) before,
        ap (λ z. z * rl) left,
        ap (λ z. z * ll) right,
        mul-le-mul_right t less,
      )

  no_more_overhead : (k < h) → ⊥
  no_more_overhead more =
      omega (
        arith,
        some,
        ap (λ z. h * z) before,
        ap (λ z. k * z) before,
        ap (λ z. z * rl) left,
        ap (λ z. z * ll) right,
        mul-le-mul_right t more,
      )

-- a line that is nowhere below x at two ends is above it at their sum, or it is the line of x
above_at_sum : (x y : Request) (l r : End) → IsBefore l r
    → rate_of x.tuple * l.lower + 8 * y.tuple.overhead * l.upper ≤ rate_of y.tuple * l.lower + 8 * x.tuple.overhead * l.upper
    → rate_of x.tuple * r.lower + 8 * y.tuple.overhead * r.upper ≤ rate_of y.tuple * r.lower + 8 * x.tuple.overhead * r.upper
    → (¬ HasSameLine x y)
    → rate_of x.tuple * (l.lower + r.lower) + 8 * y.tuple.overhead * (l.upper + r.upper)
    < rate_of y.tuple * (l.lower + r.lower) + 8 * x.tuple.overhead * (l.upper + r.upper)
above_at_sum x y l r before left right differs =
    elim (cases_lt
    (rate_of x.tuple * (l.lower + r.lower) + 8 * y.tuple.overhead * (l.upper + r.upper))
    (rate_of y.tuple * (l.lower + r.lower) + 8 * x.tuple.overhead * (l.upper + r.upper))) [
      | inl less ↦ less
      | inr more ↦
          let t = r.upper * l.lower - l.upper * r.lower in
          let gap : l.upper * r.lower + t ≡ r.upper * l.lower = omega (arith, before) in
          let some : 1 ≤ t = omega (arith, before) in
          let left_equal : rate_of x.tuple * l.lower + 8 * y.tuple.overhead * l.upper ≡ rate_of y.tuple * l.lower + 8 * x.tuple.overhead * l.upper =
          omega (arith, left, right, more) in
          let right_equal : rate_of x.tuple * r.lower + 8 * y.tuple.overhead * r.upper ≡ rate_of y.tuple * r.lower + 8 * x.tuple.overhead * r.upper =
          omega (arith, left, right, more) in
          absurd (differs record {
            rate =
                elim (cases_lt (rate_of x.tuple) (rate_of y.tuple)) [
                  | inl less ↦ absurd (no_less_rate x.tuple.overhead (rate_of x.tuple) y.tuple.overhead (rate_of y.tuple) l.upper l.lower r.upper r.lower t gap some left_equal right_equal less)
                  | inr not_less ↦
                      elim (cases_lt (rate_of y.tuple) (rate_of x.tuple)) [
                        | inl greater ↦ absurd (no_more_rate x.tuple.overhead (rate_of x.tuple) y.tuple.overhead (rate_of y.tuple) l.upper l.lower r.upper r.lower t gap some left_equal right_equal greater)
                        | inr not_greater ↦ omega arith
                      ]
                ];
            overhead =
                elim (cases_lt x.tuple.overhead y.tuple.overhead) [
                  | inl less ↦ absurd (no_less_overhead x.tuple.overhead (rate_of x.tuple) y.tuple.overhead (rate_of y.tuple) l.upper l.lower r.upper r.lower t gap some left_equal right_equal less)
                  | inr not_less ↦
                      elim (cases_lt y.tuple.overhead x.tuple.overhead) [
                        | inl greater ↦ absurd (no_more_overhead x.tuple.overhead (rate_of x.tuple) y.tuple.overhead (rate_of y.tuple) l.upper l.lower r.upper r.lower t gap some left_equal right_equal greater)
                        | inr not_greater ↦ omega arith
                      ]
                ];
          })
    ]

-- the line forbids the pair, and every row with another line permits it
pub record IsWitness (rows : List Request) (x : Request) (p : RatePair) : Type 0 where
  pub some_time : 1 ≤ p.seconds
  pub forbidden : Forbids x.tuple p
  pub permitted : All (λ y. ¬ HasSameLine x y → Permits y.tuple p) rows

some_time_between : (lu ll ru rl : ℕ) → lu * rl < ru * ll → 1 ≤ ll + rl
some_time_between lu ll ru rl before =
    elim (cases_eq ll 0) [
      | inl none ↦ absurd (omega (arith, subst (λ z. lu * rl < ru * z) none before))
      | inr some ↦ omega arith
    ]

pub IsWitness-between : (rows : List Request) (x : Request) (l r : End) → IsLowestEnd rows x l → IsLowestEnd rows x r → IsBefore l r
    → IsWitness rows x (pair_between x l r)
IsWitness-between rows x l r left right before = record {
  some_time = some_time_between l.upper l.lower r.upper r.lower before;
  forbidden = omega arith;
  permitted = λ k d below differs.
      let y = get_or rows k d in
      omega (arith, left.within, right.within, above_at_sum x y l r before (left.lowest k d below) (right.lowest k d below) differs);
}
