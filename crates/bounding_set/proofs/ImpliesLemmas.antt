-- Whether two lines imply a third: by the pairs that decide it.
use Rattle.std.proofs.Common.{sym, zero, suc, ◌≡◌, ℕ, ◌+◌, ◌-◌, ◌*◌, ◌<◌, ◌≤◌, ◌↔◌, Bool, IsTrue, inl, inr, subst, arith}
use Rattle.std.specs.Prelude.{◌⊎◌}
use Rattle.std.proofs.Math.Nat.{mul-le-mul_left, mul-le-mul_right}
use Rattle.std.proofs.lemmas.Bool.{cases_lt, cases_eq}
use Rattle.tmmbr_tuple.specs.declared.tuple.Tuple.{Tuple}
use Rattle.tmmbr_tuple.specs.Tuple.{rate_of}
use Rattle.tmmbr_tuple.specs.RatePair.{RatePair, Permits}
use Rattle.bounding_set.specs.Spliced.{ImplyTogether, ImpliesAlone, StandsAbove}
use Rattle.bounding_set.proofs.TurnLemmas.{by_difference, permitted_between, permitted_by_stricter}

-- two tuples imply a third for any three numbers, those without time among them
abbrev pub ImplyAtAnyTime : Tuple → Tuple → Tuple → Type 0
ImplyAtAnyTime a b x = (p : RatePair) → Permits a p → Permits b p → Permits x p

-- without time no bits are permitted, and packets only if there is no overhead
without_time : (m n d ha hb hx ra rb rx : ℕ) → d ≡ 0 → m + 8 * ha * n ≤ ra * d → m + 8 * hb * n ≤ rb * d → (ha ≡ 0 → hb ≡ 0 → hx ≡ 0)
    → m + 8 * hx * n ≤ rx * d
without_time m n (suc d) ha hb hx ra rb rx none by_a by_b same = absurd (omega (arith, none))
without_time m zero zero ha hb hx ra rb rx none by_a by_b same = omega (arith, by_a)
without_time m (suc n) zero ha hb hx ra rb rx none by_a by_b same =
    let no_overhead : hx ≡ 0 = same (omega (arith, by_a)) (omega (arith, by_b)) in
    subst (λ h. m + 8 * h * suc n ≤ rx * 0) (sym no_overhead) (omega (arith, by_a))

-- if both have no overhead, pairs of one second show that the third has none
no_overhead : (a b x : Tuple) → ImplyTogether a b x → a.overhead ≡ 0 → b.overhead ≡ 0 → x.overhead ≡ 0
no_overhead a b x together none_a none_b =
    let many = rate_of x + 1 in
    let free : (h r : ℕ) → h ≡ 0 → 0 + 8 * h * many ≤ r * 1 = λ h r none. subst (λ z. 0 + 8 * z * many ≤ r * 1) (sym none) (omega arith) in
    let at = together (record { packets = many; bits = 0; seconds = 1 }) (omega arith) (free a.overhead (rate_of a) none_a) (free b.overhead (rate_of b) none_b) in
    elim (cases_eq x.overhead 0) [
      | inl none ↦ none
      | inr some ↦
          let one : 1 ≤ x.overhead = omega (arith, some) in
          absurd (omega (arith, at, mul-le-mul_left (rate_of x + 1) one))
    ]

-- pairs of at least one second decide it for all three numbers
pub at_any_time : (a b x : Tuple) → ImplyTogether a b x → ImplyAtAnyTime a b x
at_any_time a b x together p by_a by_b =
    elim (cases_eq p.seconds 0) [
      | inl none ↦
          without_time p.bits p.packets p.seconds a.overhead b.overhead x.overhead (rate_of a) (rate_of b) (rate_of x) none by_a by_b (no_overhead a b x together)
      | inr some ↦ together p (omega (arith, some)) by_a by_b
    ]

-- a tuple alone, if a test was of it twice
pub alone_from_twice : (a x : Tuple) (r : Bool) → (IsTrue r ↔ ImplyTogether a a x) → (IsTrue r ↔ ImpliesAlone a x)
alone_from_twice a x r iff = (
  λ is p by_a. at_any_time a a x (iff.0 is) p by_a by_a,
  λ alone. iff.1 (λ p time by_a again. alone p by_a),
)

-- one tuple alone: it bounds no less without packets, and none the less if it leaves no media
pub record IsWithin (a x : Tuple) : Type 0 where
  pub rate : rate_of a ≤ rate_of x
  pub reach : rate_of a * x.overhead ≤ rate_of x * a.overhead
  pub overhead : a.overhead ≡ 0 → x.overhead ≡ 0

module _ (a x : Tuple) where
  -- no less overhead, and no farther reach
  pub alone_by_reach : 0 < a.overhead → a.overhead ≤ x.overhead → rate_of a * x.overhead ≤ rate_of x * a.overhead → ImpliesAlone a x
  alone_by_reach some le reach = λ p by_a.
      elim (cases_lt (rate_of x * p.seconds) (p.bits + 8 * x.overhead * p.packets)) [
        | inr within ↦ within
        | inl beyond ↦ absurd (omega (
          arith,
          mul-le-mul_left a.overhead beyond,
          mul-le-mul_left x.overhead by_a,
          mul-le-mul_right p.seconds reach,
          mul-le-mul_right p.bits le,
        ))
      ]

  -- no more overhead, and no less rate
  pub alone_by_rate : x.overhead ≤ a.overhead → rate_of a ≤ rate_of x → ImpliesAlone a x
  alone_by_rate le rates = λ p by_a.
      permitted_by_stricter p.bits p.packets p.seconds x.overhead a.overhead (rate_of x) (rate_of a) le rates by_a

  pub alone_from_within : IsWithin a x → ImpliesAlone a x
  alone_from_within is =
      elim (cases_lt a.overhead x.overhead) [
        | inl less ↦ alone_by_reach
            (elim (cases_eq a.overhead 0) [
              | inl none ↦ absurd (omega (arith, is.overhead none))
              | inr has ↦ omega arith
            ])
            (omega arith) is.reach
        | inr more ↦ alone_by_rate more is.rate
      ]

  pub within_from_alone : ImpliesAlone a x → IsWithin a x
  within_from_alone alone =
      let at_rate = alone (record { packets = 0; bits = rate_of a; seconds = 1 }) (omega arith) in
      let at_reach = alone (record { packets = rate_of a; bits = 0; seconds = 8 * a.overhead }) (omega arith) in
      record {
        rate = omega (arith, at_rate);
        reach = omega (arith, at_reach);
        overhead = λ none. let at_once = alone (record { packets = 1; bits = 0; seconds = 0 }) (omega (arith, none)) in omega (arith, at_once);
      }

module _ (a x : Tuple) where
  pub alone_iff : (b : Bool) → (IsTrue b ↔ IsWithin a x) → (IsTrue b ↔ ImpliesAlone a x)
  alone_iff b iff = (λ is. alone_from_within a x (iff.0 is), λ alone. iff.1 (within_from_alone a x alone))

-- one of them alone, or both as ends of a chord
abbrev pub ImplyByParts : Tuple → Tuple → Tuple → Type 0
ImplyByParts a b x = (ImpliesAlone a x ⊎ ImpliesAlone b x) ⊎ (StandsAbove a b x ⊎ StandsAbove b a x)

above_implies : (a b x : Tuple) → StandsAbove a b x → ImplyAtAnyTime a b x
above_implies a b x stands = λ p by_a by_b.
    permitted_between p.bits p.packets p.seconds a.overhead x.overhead b.overhead (rate_of a) (rate_of x) (rate_of b)
    stands.more stands.less stands.above by_a by_b

together_from_parts : (a b x : Tuple) → ImplyByParts a b x → ImplyAtAnyTime a b x
together_from_parts a b x parts = λ p by_a by_b.
    elim parts [
      | inl (inl alone) ↦ alone p by_a
      | inl (inr alone) ↦ alone p by_b
      | inr (inl stands) ↦ above_implies a b x stands p by_a by_b
      | inr (inr stands) ↦ above_implies b a x stands p by_b by_a
    ]

-- where two lines cross, a third that both imply isn't below their chord
crossing_above : (ha h r ra hx rx : ℕ) → (ra + r) * ha ≤ ra * (ha + h)
    → ((m n d : ℕ) → m + 8 * ha * n ≤ ra * d → m + 8 * (ha + h) * n ≤ (ra + r) * d → m + 8 * hx * n ≤ rx * d)
    → (ha + h) * ra + hx * (ra + r) + ha * rx ≤ (ha + h) * rx + hx * ra + ha * (ra + r)
crossing_above ha h r ra hx rx cross together =
    let e = ra * (ha + h) - (ra + r) * ha in
    let is : e + (ra + r) * ha ≡ ra * (ha + h) = omega (arith, cross) in
    let by_first : 8 * e + 8 * ha * r ≤ ra * (8 * h) = omega (arith, is) in
    let by_second : 8 * e + 8 * (ha + h) * r ≤ (ra + r) * (8 * h) = omega (arith, is) in
    let at = together (8 * e) r (8 * h) by_first by_second in
    omega (arith, is, at)

crossing : (ha hb ra rb hx rx : ℕ) → ha ≤ hb → ra ≤ rb → rb * ha ≤ ra * hb
    → ((m n d : ℕ) → m + 8 * ha * n ≤ ra * d → m + 8 * hb * n ≤ rb * d → m + 8 * hx * n ≤ rx * d)
    → hb * ra + hx * rb + ha * rx ≤ hb * rx + hx * ra + ha * rb
crossing ha hb ra rb hx rx le rates =
    by_difference
    (λ h. rb * ha ≤ ra * h
    → ((m n d : ℕ) → m + 8 * ha * n ≤ ra * d → m + 8 * h * n ≤ rb * d → m + 8 * hx * n ≤ rx * d)
    → h * ra + hx * rb + ha * rx ≤ h * rx + hx * ra + ha * rb)
    ha hb le
    (λ h. by_difference
    (λ r. r * ha ≤ ra * (ha + h)
    → ((m n d : ℕ) → m + 8 * ha * n ≤ ra * d → m + 8 * (ha + h) * n ≤ r * d → m + 8 * hx * n ≤ rx * d)
    → (ha + h) * ra + hx * r + ha * rx ≤ (ha + h) * rx + hx * ra + ha * r)
    ra rb rates
    (λ r. crossing_above ha h r ra hx rx))

module _ (a b x : Tuple) (together : ImplyAtAnyTime a b x) where
  -- a rate that neither exceeds, x doesn't go below
  least_rate : (r : ℕ) → r ≤ rate_of a → r ≤ rate_of b → r ≤ rate_of x
  least_rate r le_a le_b =
      let at = together (record { packets = 0; bits = r; seconds = 1 }) (omega (arith, le_a)) (omega (arith, le_b)) in
      omega (arith, at)

  -- and a reach
  least_reach : (h r : ℕ) → r * a.overhead ≤ rate_of a * h → r * b.overhead ≤ rate_of b * h → r * x.overhead ≤ rate_of x * h
  least_reach h r le_a le_b =
      let at = together (record { packets = r; bits = 0; seconds = 8 * h }) (omega (arith, le_a)) (omega (arith, le_b)) in
      omega (arith, at)

  below_both : x.overhead ≤ a.overhead → a.overhead ≤ b.overhead → ImplyByParts a b x
  below_both low le =
      elim (cases_lt (rate_of b) (rate_of a)) [
        | inl less ↦ inl (inr (alone_by_rate b x (omega arith) (least_rate (rate_of b) (omega arith) (omega arith))))
        | inr more ↦ inl (inl (alone_by_rate a x low (least_rate (rate_of a) (omega arith) (omega arith))))
      ]

  -- the second reaches less far, or there would be no overhead at all
  has_overhead : (h r s k : ℕ) → r * k < s * h → 0 < h
  has_overhead h r s k less =
      elim (cases_eq h 0) [
        | inl none ↦ let bad : r * k < s * 0 = subst (λ z. r * k < s * z) none less in absurd (omega (arith, bad))
        | inr some ↦ omega arith
      ]

  by_reach_of_first : a.overhead ≤ x.overhead → rate_of a * b.overhead < rate_of b * a.overhead → ImpliesAlone a x
  by_reach_of_first le less =
      alone_by_reach a x (has_overhead a.overhead (rate_of a) (rate_of b) b.overhead less) le
      (least_reach a.overhead (rate_of a) (omega arith) (omega (arith, less)))

  above_both : a.overhead < x.overhead → a.overhead ≤ b.overhead → b.overhead ≤ x.overhead → ImplyByParts a b x
  above_both more le below =
      elim (cases_eq b.overhead 0) [
        | inl none ↦
            let at = together (record { packets = 1; bits = 0; seconds = 0 }) (omega arith) (omega arith) in
            absurd (omega (arith, at))
        | inr some ↦
            elim (cases_lt (rate_of a * b.overhead) (rate_of b * a.overhead)) [
              | inl less ↦ inl (inl (by_reach_of_first (omega arith) less))
              | inr farther ↦ inl (inr (alone_by_reach b x (omega arith) below
                  (least_reach b.overhead (rate_of b) (omega (arith, farther)) (omega arith))))
            ]
      ]

  between_both : a.overhead < x.overhead → x.overhead < b.overhead → ImplyByParts a b x
  between_both more less =
      elim (cases_lt (rate_of a) (rate_of b)) [
        | inr falls ↦ inl (inr (alone_by_rate b x (omega arith) (least_rate (rate_of b) falls (omega arith))))
        | inl rises ↦
            elim (cases_lt (rate_of a * b.overhead) (rate_of b * a.overhead)) [
              | inl sooner ↦ inl (inl (by_reach_of_first (omega arith) sooner))
              | inr farther ↦ inr (inl (record {
                more = more;
                less = less;
                above = crossing a.overhead b.overhead (rate_of a) (rate_of b) x.overhead (rate_of x) (omega arith) (omega arith) farther
                    (λ m n d. together (record { packets = n; bits = m; seconds = d }));
              }))
            ]
      ]

  parts_in_order : a.overhead ≤ b.overhead → ImplyByParts a b x
  parts_in_order le =
      elim (cases_lt a.overhead x.overhead) [
        | inr low ↦ below_both low le
        | inl more ↦
            elim (cases_lt x.overhead b.overhead) [
              | inl less ↦ between_both more less
              | inr beyond ↦ above_both more le beyond
            ]
      ]

parts_turned : (a b x : Tuple) → ImplyByParts b a x → ImplyByParts a b x
parts_turned a b x parts =
    elim parts [
      | inl (inl alone) ↦ inl (inr alone)
      | inl (inr alone) ↦ inl (inl alone)
      | inr (inl stands) ↦ inr (inr stands)
      | inr (inr stands) ↦ inr (inl stands)
    ]

parts_from_together : (a b x : Tuple) → ImplyAtAnyTime a b x → ImplyByParts a b x
parts_from_together a b x together =
    elim (cases_lt b.overhead a.overhead) [
      | inl less ↦ parts_turned a b x (parts_in_order b a x (λ p by_b by_a. together p by_a by_b) (omega arith))
      | inr le ↦ parts_in_order a b x together le
    ]

module _ (a b x : Tuple) where
  pub together_iff : (r : Bool) → (IsTrue r ↔ ImplyByParts a b x) → (IsTrue r ↔ ImplyTogether a b x)
  together_iff r iff = (
    λ is p time. together_from_parts a b x (iff.0 is) p,
    λ together. iff.1 (parts_from_together a b x (at_any_time a b x together)),
  )
