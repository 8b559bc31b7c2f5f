-- Lines as points (overhead, rate): which of three is below the chord of the others, and what two of them imply.
use Rattle.std.proofs.Common.{◌≡◌, ℕ, ◌+◌, ◌-◌, ◌*◌, ◌<◌, ◌≤◌, inl, inr, subst, arith}
use Rattle.std.proofs.Math.Nat.{mul-le-mul_left, mul-le-mul_right}
use Rattle.std.proofs.lemmas.Bool.{cases_lt, cases_eq}

-- what holds of a sum with a holds of each greater number
pub by_difference : (P : ℕ → Type 0) (a b : ℕ) → a ≤ b → ((m : ℕ) → P (a + m)) → P b
by_difference P a b le holds =
    let sum : a + (b - a) ≡ b = omega arith in
    subst P sum (holds (b - a))

-- the point (hb, rb) is below the chord from (ha, ra) to (hc, rc)
abbrev pub IsBelowChord : ℕ → ℕ → ℕ → ℕ → ℕ → ℕ → Type 0
IsBelowChord ha ra hb rb hc rc = hc * rb + hb * ra + ha * rc < hc * ra + hb * rc + ha * rb

abbrev pub IsNotBelowChord : ℕ → ℕ → ℕ → ℕ → ℕ → ℕ → Type 0
IsNotBelowChord ha ra hb rb hc rc = hc * ra + hb * rc + ha * rb ≤ hc * rb + hb * ra + ha * rc

module _ (ra rb rc rd : ℕ) where
  below_outer : (ha m k l : ℕ) → 0 < k → IsBelowChord ha ra (ha + m) rb (ha + m + k) rc
      → IsBelowChord (ha + m) rb (ha + m + k) rc (ha + m + k + l) rd
      → IsBelowChord ha ra (ha + m) rb (ha + m + k + l) rd
  below_outer ha m k l some abc bcd =
      let hb = ha + m in
      let hd = ha + m + k + l in
      elim (cases_lt (hd * rb + hb * ra + ha * rd) (hd * ra + hb * rd + ha * rb)) [
        | inl below ↦ below
        | inr above ↦ absurd (omega (arith, mul-le-mul_left k above, mul-le-mul_left (k + l) abc, mul-le-mul_left m bcd))
      ]

  -- four points with a turn at each of the inner ones: the second is below the chord of the outer ones
  pub second_below : (ha hb hc hd : ℕ) → ha < hb → hb < hc → hc < hd → IsBelowChord ha ra hb rb hc rc
      → IsBelowChord hb rb hc rc hd rd → IsBelowChord ha ra hb rb hd rd
  second_below ha hb hc hd ab bc cd =
      by_difference (λ b. b < hc → IsBelowChord ha ra b rb hc rc → IsBelowChord b rb hc rc hd rd → IsBelowChord ha ra b rb hd rd)
      ha hb (omega arith)
      (λ m bc. by_difference
      (λ c. ha + m < c → c < hd → IsBelowChord ha ra (ha + m) rb c rc → IsBelowChord (ha + m) rb c rc hd rd → IsBelowChord ha ra (ha + m) rb hd rd)
      (ha + m) hc (omega arith)
      (λ k some cd. by_difference
      (λ d. IsBelowChord ha ra (ha + m) rb (ha + m + k) rc → IsBelowChord (ha + m) rb (ha + m + k) rc d rd → IsBelowChord ha ra (ha + m) rb d rd)
      (ha + m + k) hd (omega arith)
      (λ l. below_outer ha m k l (omega arith)))
      bc cd)
      bc

  below_outer_third : (ha m k l : ℕ) → 0 < k → IsBelowChord ha ra (ha + m) rb (ha + m + k) rc
      → IsBelowChord (ha + m) rb (ha + m + k) rc (ha + m + k + l) rd
      → IsBelowChord ha ra (ha + m + k) rc (ha + m + k + l) rd
  below_outer_third ha m k l some abc bcd =
      let hc = ha + m + k in
      let hd = ha + m + k + l in
      elim (cases_lt (hd * rc + hc * ra + ha * rd) (hd * ra + hc * rd + ha * rc)) [
        | inl below ↦ below
        | inr above ↦ absurd (omega (arith, mul-le-mul_left k above, mul-le-mul_left l abc, mul-le-mul_left (k + m) bcd))
      ]

  -- and so is the third
  pub third_below : (ha hb hc hd : ℕ) → ha < hb → hb < hc → hc < hd → IsBelowChord ha ra hb rb hc rc
      → IsBelowChord hb rb hc rc hd rd → IsBelowChord ha ra hc rc hd rd
  third_below ha hb hc hd ab bc cd =
      by_difference (λ b. b < hc → IsBelowChord ha ra b rb hc rc → IsBelowChord b rb hc rc hd rd → IsBelowChord ha ra hc rc hd rd)
      ha hb (omega arith)
      (λ m bc. by_difference
      (λ c. ha + m < c → c < hd → IsBelowChord ha ra (ha + m) rb c rc → IsBelowChord (ha + m) rb c rc hd rd → IsBelowChord ha ra c rc hd rd)
      (ha + m) hc (omega arith)
      (λ k some cd. by_difference
      (λ d. IsBelowChord ha ra (ha + m) rb (ha + m + k) rc → IsBelowChord (ha + m) rb (ha + m + k) rc d rd → IsBelowChord ha ra (ha + m + k) rc d rd)
      (ha + m + k) hd (omega arith)
      (λ l. below_outer_third ha m k l (omega arith)))
      bc cd)
      bc

-- a turn upwards after a rise rises
rises_behind : (ra rb rc ha m k : ℕ) → ra ≤ rb → 0 < m → IsBelowChord ha ra (ha + m) rb (ha + m + k) rc → rb < rc
rises_behind ra rb rc ha m k le some abc =
    elim (cases_lt rb rc) [
      | inl less ↦ less
      | inr more ↦ absurd (omega (arith, mul-le-mul_left m more, mul-le-mul_left k le))
    ]

pub rate_rises : (ra rb rc ha hb hc : ℕ) → ha < hb → hb < hc → ra ≤ rb → IsBelowChord ha ra hb rb hc rc → rb < rc
rate_rises ra rb rc ha hb hc ab bc le =
    by_difference (λ b. ha < b → b < hc → IsBelowChord ha ra b rb hc rc → rb < rc) ha hb (omega arith)
    (λ m some bc. by_difference (λ c. IsBelowChord ha ra (ha + m) rb c rc → rb < rc) (ha + m) hc (omega arith)
    (λ k. rises_behind ra rb rc ha m k le (omega arith)))
    ab bc

-- who reaches beyond one that reaches beyond a third reaches beyond that
pub beyond_beyond : (he re ht rt hx rx : ℕ) → ht < hx → rt * he < re * ht → rx * ht < rt * hx → rx * he < re * hx
beyond_beyond he re ht rt hx rx lt et tx =
    elim (cases_lt (rx * he) (re * hx)) [
      | inl less ↦ less
      | inr more ↦ absurd (omega (arith, mul-le-mul_left ht more, mul-le-mul_left he tx, mul-le-mul_left hx et))
    ]

module _ (m n d : ℕ) where
  -- no more overhead, no farther reach, and for equal overhead no greater rate: what permits a pair less
  pub permitted_by_reach : (ht rt hx rx : ℕ) → ht ≤ hx → (ht ≡ hx → rt ≤ rx) → 0 < rt → rt * hx ≤ rx * ht
      → m + 8 * ht * n ≤ rt * d → m + 8 * hx * n ≤ rx * d
  permitted_by_reach ht rt hx rx le same some reach by_t =
      elim (cases_eq ht 0) [
        | inl none ↦
            let no_reach : rt * hx ≤ rx * 0 = subst (λ h. rt * hx ≤ rx * h) none reach in
            let no_overhead : hx ≡ 0 = omega (arith, mul-le-mul_left hx some) in
            let by_t_alone : m + 8 * 0 * n ≤ rt * d = subst (λ h. m + 8 * h * n ≤ rt * d) none by_t in
            let rates : rt ≤ rx = same (omega arith) in
            rw no_overhead (omega (arith, mul-le-mul_right d rates))
        | inr has ↦
            elim (cases_lt (rx * d) (m + 8 * hx * n)) [
              | inr within ↦ within
              | inl above ↦ absurd (omega (
                arith,
                mul-le-mul_left ht above,
                mul-le-mul_left hx by_t,
                mul-le-mul_right d reach,
                mul-le-mul_right m le,
              ))
            ]
      ]

  between : (hs k l rs rt rx : ℕ) → 0 < k → IsNotBelowChord hs rs (hs + k) rt (hs + k + l) rx
      → m + 8 * hs * n ≤ rs * d → m + 8 * (hs + k + l) * n ≤ rx * d → m + 8 * (hs + k) * n ≤ rt * d
  between hs k l rs rt rx some above by_s by_x =
      elim (cases_lt (rt * d) (m + 8 * (hs + k) * n)) [
        | inr within ↦ within
        | inl beyond ↦ absurd (omega (
          arith,
          mul-le-mul_left (k + l) beyond,
          mul-le-mul_left l by_s,
          mul-le-mul_left k by_x,
          mul-le-mul_right d above,
        ))
      ]

  -- a point on the chord or above it: what the ends permit, it permits
  pub permitted_between : (hs ht hx rs rt rx : ℕ) → hs < ht → ht < hx → IsNotBelowChord hs rs ht rt hx rx
      → m + 8 * hs * n ≤ rs * d → m + 8 * hx * n ≤ rx * d → m + 8 * ht * n ≤ rt * d
  permitted_between hs ht hx rs rt rx st tx =
      by_difference
      (λ t. hs < t → t < hx → IsNotBelowChord hs rs t rt hx rx → m + 8 * hs * n ≤ rs * d → m + 8 * hx * n ≤ rx * d → m + 8 * t * n ≤ rt * d)
      hs ht (omega arith)
      (λ k some tx. by_difference
      (λ x. IsNotBelowChord hs rs (hs + k) rt x rx → m + 8 * hs * n ≤ rs * d → m + 8 * x * n ≤ rx * d → m + 8 * (hs + k) * n ≤ rt * d)
      (hs + k) hx (omega arith)
      (λ l. between hs k l rs rt rx (omega arith)))
      st tx

  -- less overhead and no less rate
  pub permitted_by_stricter : (ht hx rt rx : ℕ) → ht ≤ hx → rx ≤ rt → m + 8 * hx * n ≤ rx * d → m + 8 * ht * n ≤ rt * d
  permitted_by_stricter ht hx rt rx le rates by_x = omega (arith, mul-le-mul_right n le, mul-le-mul_right d rates)
