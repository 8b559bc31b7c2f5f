-- Points (overhead, rate): what a turn at a new one says of those beside it.
use Rattle.std.proofs.Common.{ℕ, ◌+◌, ◌*◌, ◌<◌, ◌≤◌, inl, inr, arith}
use Rattle.std.proofs.Math.Nat.{mul-le-mul_left}
use Rattle.std.proofs.lemmas.Bool.{cases_lt}
use Rattle.bounding_set.proofs.TurnLemmas.{by_difference, IsBelowChord}

-- what holds of three points by their distances holds of each three
by_distances : (P : ℕ → ℕ → ℕ → Type 0) (ha hb hc : ℕ) → ha < hb → hb < hc
    → ((m k : ℕ) → 0 < m → 0 < k → P ha (ha + m) (ha + m + k)) → P ha hb hc
by_distances P ha hb hc ab bc holds =
    by_difference (λ b. ha < b → b < hc → P ha b hc) ha hb (omega arith)
    (λ m some bc. by_difference (λ c. ha + m < c → P ha (ha + m) c) (ha + m) hc (omega arith)
    (λ k more. holds m k (omega arith) (omega arith)) bc)
    ab bc

-- the same of four
by_distances_of_four : (P : ℕ → ℕ → ℕ → ℕ → Type 0) (ha hb hc hd : ℕ) → ha < hb → hb < hc → hc < hd
    → ((m k l : ℕ) → 0 < m → 0 < k → P ha (ha + m) (ha + m + k) (ha + m + k + l)) → P ha hb hc hd
by_distances_of_four P ha hb hc hd ab bc cd holds =
    by_distances (λ a b c. c < hd → P a b c hd) ha hb hc ab bc
    (λ m k some more cd. by_difference (λ d. P ha (ha + m) (ha + m + k) d) (ha + m + k) hd (omega arith) (λ l. holds m k l some more))
    cd

module _ (ra rx rb : ℕ) where
  rate_by_distances : (ha m k : ℕ) → ra < rb → IsBelowChord ha ra (ha + m) rx (ha + m + k) rb → rx < rb
  rate_by_distances ha m k rise axb =
      elim (cases_lt rx rb) [
        | inl less ↦ less
        | inr more ↦ absurd (omega (arith, axb, mul-le-mul_left (m + k) more, mul-le-mul_left k rise))
      ]

  -- below a rising chord the rate is less than at its end
  pub rate_below : (ha hx hb : ℕ) → ha < hx → hx < hb → ra < rb → IsBelowChord ha ra hx rx hb rb → rx < rb
  rate_below ha hx hb ax xb =
      by_distances (λ a x b. ra < rb → IsBelowChord a ra x rx b rb → rx < rb) ha hx hb ax xb
      (λ m k some more. rate_by_distances ha m k)

  reach_by_distances : (ha m k : ℕ) → 0 < m → rb * ha < ra * (ha + m + k) → IsBelowChord ha ra (ha + m) rx (ha + m + k) rb
      → rx * ha < ra * (ha + m)
  reach_by_distances ha m k some reach axb =
      elim (cases_lt (rx * ha) (ra * (ha + m))) [
        | inl less ↦ less
        | inr more ↦ absurd (omega (arith, mul-le-mul_left ha axb, mul-le-mul_left (m + k) more, mul-le-mul_left m reach))
      ]

  -- and if the start reaches beyond the end, it reaches beyond what is below the chord
  pub reach_below : (ha hx hb : ℕ) → ha < hx → hx < hb → rb * ha < ra * hb → IsBelowChord ha ra hx rx hb rb → rx * ha < ra * hx
  reach_below ha hx hb ax xb =
      by_distances (λ a x b. rb * a < ra * b → IsBelowChord a ra x rx b rb → rx * a < ra * x) ha hx hb ax xb
      (λ m k some more. reach_by_distances ha m k some)

  -- with less rate it is below the more
  pub still_below : (ha hx hb rs : ℕ) → ha < hx → hx < hb → rx ≤ rs → IsBelowChord ha ra hx rs hb rb → IsBelowChord ha ra hx rx hb rb
  still_below ha hx hb rs ax xb le =
      by_distances (λ a x b. IsBelowChord a ra x rs b rb → IsBelowChord a ra x rx b rb) ha hx hb ax xb
      (λ m k some more asb. omega (arith, asb, mul-le-mul_left (m + k) le))

module _ (ra rb rc rd : ℕ) where
  left_by_distances : (ha m k l : ℕ) → 0 < k → IsBelowChord ha ra (ha + m) rb (ha + m + k + l) rd
      → IsBelowChord (ha + m) rb (ha + m + k) rc (ha + m + k + l) rd
      → IsBelowChord ha ra (ha + m + k) rc (ha + m + k + l) rd
  left_by_distances ha m k l some abd bcd =
      let hc = ha + m + k in
      let hd = ha + m + k + l in
      elim (cases_lt (hd * rc + hc * ra + ha * rd) (hd * ra + hc * rd + ha * rc)) [
        | inl below ↦ below
        | inr above ↦ absurd (omega (arith, mul-le-mul_left (k + l) above, mul-le-mul_left l abd, mul-le-mul_left (m + k + l) bcd))
      ]

  -- what turns from a point to an end turns from each that turns from there to that end
  pub turns_from_left : (ha hb hc hd : ℕ) → ha < hb → hb < hc → hc < hd → IsBelowChord ha ra hb rb hd rd
      → IsBelowChord hb rb hc rc hd rd → IsBelowChord ha ra hc rc hd rd
  turns_from_left ha hb hc hd ab bc cd =
      by_distances_of_four (λ a b c d. IsBelowChord a ra b rb d rd → IsBelowChord b rb c rc d rd → IsBelowChord a ra c rc d rd)
      ha hb hc hd ab bc cd
      (λ m k l some more. left_by_distances ha m k l more)

  right_by_distances : (ha m k l : ℕ) → 0 < m → IsBelowChord ha ra (ha + m) rb (ha + m + k) rc
      → IsBelowChord ha ra (ha + m + k) rc (ha + m + k + l) rd
      → IsBelowChord ha ra (ha + m) rb (ha + m + k + l) rd
  right_by_distances ha m k l some abc acd =
      let hb = ha + m in
      let hd = ha + m + k + l in
      elim (cases_lt (hd * rb + hb * ra + ha * rd) (hd * ra + hb * rd + ha * rb)) [
        | inl below ↦ below
        | inr above ↦ absurd (omega (arith, mul-le-mul_left (m + k) above, mul-le-mul_left m acd, mul-le-mul_left (m + k + l) abc))
      ]

  -- and to each that turns from there
  pub turns_to_right : (ha hb hc hd : ℕ) → ha < hb → hb < hc → hc < hd → IsBelowChord ha ra hb rb hc rc
      → IsBelowChord ha ra hc rc hd rd → IsBelowChord ha ra hb rb hd rd
  turns_to_right ha hb hc hd ab bc cd =
      by_distances_of_four (λ a b c d. IsBelowChord a ra b rb c rc → IsBelowChord a ra c rc d rd → IsBelowChord a ra b rb d rd)
      ha hb hc hd ab bc cd
      (λ m k l some more. right_by_distances ha m k l some)

-- at the end of a chord, what isn't below it has no less rate
pub rate_at_end : (ha hb ra rb r : ℕ) → ha < hb → hb * ra + hb * rb + ha * r ≤ hb * r + hb * ra + ha * rb → rb ≤ r
rate_at_end ha hb ra rb r ab =
    by_difference (λ b. ha < b → b * ra + b * rb + ha * r ≤ b * r + b * ra + ha * rb → rb ≤ r) ha hb (omega arith)
    (λ m some above. elim (cases_lt r rb) [
      | inr more ↦ more
      | inl less ↦ absurd (omega (arith, above, mul-le-mul_left m less))
    ])
    ab
