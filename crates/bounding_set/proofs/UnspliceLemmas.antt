-- What the lines of an envelope still cover if one of them is taken out.
use Rattle.std.proofs.Common.{◌≡◌, ℕ, zero, suc, ◌+◌, ◌-◌, ◌*◌, ◌<◌, ◌≤◌, List, [], ◌∷◌, length, get_or, take, drop, inl, inr, refl, sym, ap, ◌∙◌, subst, arith}
use Rattle.std.specs.Prelude.{All, Contains, ◌⊎◌}
use Rattle.std.specs.List.{AllWithin, remove}
use Rattle.std.proofs.Math.Nat.{mul-le-mul_left}
use Rattle.std.proofs.lemmas.Bool.{cases_lt, cases_eq}
use Rattle.std.proofs.lemmas.List.{get_or_default}
use Rattle.std.proofs.lemmas.List.Edits.{length-remove, get_or-remove_below, get_or-remove_above}
use Rattle.std.proofs.lemmas.List.Quantifiers.{all_pairs_remove}
use Rattle.std.proofs.lemmas.List.Elements.{at_from_Contains, All-nil, All-cons, All-tail, All-take, All-drop, All-append}
use Rattle.tmmbr_tuple.specs.Tuple.{rate_of}
use Rattle.tmmbr_tuple.specs.RatePair.{RatePair, Permits}
use Rattle.rate_cert.specs.declared.request.Request.{Request}
use Rattle.bounding_set.specs.Canonical.{HasSameLine, StopsMedia, ReachesNoFarther}
use Rattle.bounding_set.specs.Announced.{IsAboveChord}
use Rattle.bounding_set.specs.Envelope.{IsHull, Crosses, Covers, IsEnvelopeOf}
use Rattle.bounding_set.specs.Gap.{IsEnvelopeButAt}
use Rattle.bounding_set.specs.Kept.{StandsAt}
use Rattle.bounding_set.proofs.TurnLemmas.{by_difference, permitted_by_reach, permitted_by_stricter, permitted_between}
use Rattle.bounding_set.proofs.EndLemmas.{left_of_crossing, IsAboveChord-from_end}
use Rattle.bounding_set.proofs.EssentialLemmas.{chords, reaches_least}
use Rattle.bounding_set.proofs.SplicedLemmas.{Contains-cons_cases}

-- a point on the chord or above it, straight above an end of the chord
above_left_by : (ha m ra rb r : ℕ) → 0 < m → (ha + m) * ra + ha * rb + ha * r ≤ (ha + m) * r + ha * ra + ha * rb → ra ≤ r
above_left_by ha m ra rb r some chord =
    elim (cases_lt r ra) [
      | inl less ↦ absurd (omega (arith, chord, mul-le-mul_left m less))
      | inr no_less ↦ no_less
    ]

above_right_by : (ha m ra rb r : ℕ) → 0 < m → (ha + m) * ra + (ha + m) * rb + ha * r ≤ (ha + m) * r + (ha + m) * ra + ha * rb → rb ≤ r
above_right_by ha m ra rb r some chord =
    elim (cases_lt r rb) [
      | inl less ↦ absurd (omega (arith, chord, mul-le-mul_left m less))
      | inr no_less ↦ no_less
    ]

above_left : (ha hb ra rb r : ℕ) → ha < hb → hb * ra + ha * rb + ha * r ≤ hb * r + ha * ra + ha * rb → ra ≤ r
above_left ha hb ra rb r less =
    by_difference (λ b. ha < b → b * ra + ha * rb + ha * r ≤ b * r + ha * ra + ha * rb → ra ≤ r) ha hb (omega arith)
    (λ m some. above_left_by ha m ra rb r (omega arith)) less

above_right : (ha hb ra rb r : ℕ) → ha < hb → hb * ra + hb * rb + ha * r ≤ hb * r + hb * ra + ha * rb → rb ≤ r
above_right ha hb ra rb r less =
    by_difference (λ b. ha < b → b * ra + b * rb + ha * r ≤ b * r + b * ra + ha * rb → rb ≤ r) ha hb (omega arith)
    (λ m some. above_right_by ha m ra rb r (omega arith)) less

-- no farther reach by the same overhead
no_less_by_reach : (h rt rx : ℕ) → 0 < h → rt * h ≤ rx * h → rt ≤ rx
no_less_by_reach h rt rx some reach =
    elim (cases_lt rx rt) [
      | inl less ↦ absurd (omega (arith, reach, mul-le-mul_left h less))
      | inr no_less ↦ no_less
    ]

-- a request that a hull covers
module _ (lines : List Request) (hull : IsHull lines) (y : Request) (covers : Covers lines y) where
  -- its rate is no less than the first line's
  starts_no_lower : (d : Request) → 0 < length lines → rate_of (get_or lines 0 d).tuple ≤ rate_of y.tuple
  starts_no_lower d some =
      let first = get_or lines 0 d in
      let permitted = covers (record { packets = 0; bits = rate_of first.tuple; seconds = 1 })
      (λ k e below.
      let first_is : get_or lines 0 e ≡ first = get_or_default lines 0 e d some in
      elim (cases_eq k 0) [
        | inl here ↦ rw (here, first_is) (omega arith)
        | inr behind ↦
            let less : rate_of first.tuple < rate_of (get_or lines k e).tuple =
            subst (λ (l : Request). rate_of l.tuple < rate_of (get_or lines k e).tuple) first_is (hull.crosses 0 k e (omega arith) below).rate in
            omega (arith, less)
      ]) in
      omega (arith, permitted)

  -- the last line reaches no farther
  last_reaches : (j : ℕ) (d : Request) → j + 1 ≡ length lines → ReachesNoFarther (get_or lines j d) y
  last_reaches j d last =
      let top = get_or lines j d in
      let permitted = covers (record { packets = rate_of top.tuple; bits = 0; seconds = 8 * top.tuple.overhead })
      (λ k e below.
      let least = reaches_least lines hull j k d last below in
      subst (λ (l : Request). 0 + 8 * l.tuple.overhead * rate_of top.tuple ≤ rate_of l.tuple * (8 * top.tuple.overhead))
      (get_or_default lines k d e below) (omega (arith, least))) in
      omega (arith, permitted)

  -- it isn't below the chord of two neighbours
  next_chord : (j : ℕ) (d : Request) → j + 1 < length lines → IsAboveChord (get_or lines j d) (get_or lines (j + 1) d) y
  next_chord j d next =
      let a = get_or lines j d in
      let b = get_or lines (j + 1) d in
      let crosses = hull.crosses j (j + 1) d (omega arith) next in
      IsAboveChord-from_end a b crosses (y ∷ [])
      (left_of_crossing a b crosses (y ∷ []) lines (All-cons (Covers lines) y [] covers (All-nil (Covers lines))) (chords lines hull j d next))
      0 y (omega arith)

  chord_of : (j k : ℕ) (d : Request) → k ≡ j + 1 → k < length lines → IsAboveChord (get_or lines j d) (get_or lines k d) y
  chord_of j k d is below =
      subst (λ k. IsAboveChord (get_or lines j d) (get_or lines k d) y) (sym is) (next_chord j d (omega (arith, is, below)))

  -- the lines up to one of no less overhead imply it
  pub implied_up_to : (q : ℕ) (d : Request) → q < length lines → y.tuple.overhead ≤ (get_or lines q d).tuple.overhead
      → (p : RatePair) → AllWithin (λ l. Permits l.tuple p) lines 0 (q + 1) → Permits y.tuple p
  implied_up_to zero d below low p permits =
      let first = get_or lines 0 d in
      permitted_by_stricter p.bits p.packets p.seconds y.tuple.overhead first.tuple.overhead (rate_of y.tuple) (rate_of first.tuple)
      low (starts_no_lower d below) (permits 0 d (omega arith) (omega arith))
  implied_up_to (suc q) d below low p permits =
      let a = get_or lines q d in
      let b = get_or lines (suc q) d in
      let crosses = hull.crosses q (suc q) d (omega arith) below in
      let chord = chord_of q (suc q) d (omega arith) below in
      elim (cases_lt a.tuple.overhead y.tuple.overhead) [
        | inr no_more ↦ implied_up_to q d (omega arith) no_more p (λ k e from to. permits k e from (omega arith))
        | inl more ↦
            elim (cases_eq y.tuple.overhead b.tuple.overhead) [
              | inl same ↦
                  let chord_there = subst
                  (λ h. b.tuple.overhead * rate_of a.tuple + h * rate_of b.tuple + a.tuple.overhead * rate_of y.tuple
                  ≤ b.tuple.overhead * rate_of y.tuple + h * rate_of a.tuple + a.tuple.overhead * rate_of b.tuple) same chord in
                  permitted_by_stricter p.bits p.packets p.seconds y.tuple.overhead b.tuple.overhead (rate_of y.tuple) (rate_of b.tuple)
                  low (above_right a.tuple.overhead b.tuple.overhead (rate_of a.tuple) (rate_of b.tuple) (rate_of y.tuple) crosses.overhead chord_there)
                  (permits (suc q) d (omega arith) (omega arith))
              | inr other ↦
                  permitted_between p.bits p.packets p.seconds a.tuple.overhead y.tuple.overhead b.tuple.overhead
                  (rate_of a.tuple) (rate_of y.tuple) (rate_of b.tuple) more (omega (arith, low, other)) chord
                  (permits q d (omega arith) (omega arith)) (permits (suc q) d (omega arith) (omega arith))
            ]
      ]

  -- and so do the lines from one of no more overhead on
  pub implied_from : (m q : ℕ) (d : Request) → length lines ≡ q + 1 + m → All (λ l. ¬ StopsMedia l) lines → 0 < (get_or lines q d).tuple.overhead
      → (get_or lines q d).tuple.overhead ≤ y.tuple.overhead → (p : RatePair) → AllWithin (λ l. Permits l.tuple p) lines q (length lines) → Permits y.tuple p
  implied_from zero q d long send some high p permits =
      let last = get_or lines q d in
      let reach = last_reaches q d (omega (arith, long)) in
      permitted_by_reach p.bits p.packets p.seconds last.tuple.overhead (rate_of last.tuple) y.tuple.overhead (rate_of y.tuple) high
      (λ same. no_less_by_reach last.tuple.overhead (rate_of last.tuple) (rate_of y.tuple) some
      (subst (λ h. rate_of last.tuple * h ≤ rate_of y.tuple * last.tuple.overhead) (sym same) reach))
      (omega (arith, send q d (omega (arith, long)))) reach (permits q d (omega arith) (omega (arith, long)))
  implied_from (suc m) q d long send some high p permits =
      let a = get_or lines q d in
      let b = get_or lines (q + 1) d in
      let crosses = hull.crosses q (q + 1) d (omega arith) (omega (arith, long)) in
      let chord = chord_of q (q + 1) d refl (omega (arith, long)) in
      elim (cases_lt y.tuple.overhead b.tuple.overhead) [
        | inr no_less ↦
            implied_from m (q + 1) d (omega (arith, long)) send (omega (arith, crosses.overhead)) no_less p (λ k e from to. permits k e (omega arith) to)
        | inl less ↦
            elim (cases_eq y.tuple.overhead a.tuple.overhead) [
              | inl same ↦
                  let chord_there = subst
                  (λ h. b.tuple.overhead * rate_of a.tuple + h * rate_of b.tuple + a.tuple.overhead * rate_of y.tuple
                  ≤ b.tuple.overhead * rate_of y.tuple + h * rate_of a.tuple + a.tuple.overhead * rate_of b.tuple) same chord in
                  permitted_by_stricter p.bits p.packets p.seconds y.tuple.overhead a.tuple.overhead (rate_of y.tuple) (rate_of a.tuple)
                  (omega (arith, same))
                  (above_left a.tuple.overhead b.tuple.overhead (rate_of a.tuple) (rate_of b.tuple) (rate_of y.tuple) crosses.overhead chord_there)
                  (permits q d (omega arith) (omega (arith, long)))
              | inr other ↦
                  permitted_between p.bits p.packets p.seconds a.tuple.overhead y.tuple.overhead b.tuple.overhead
                  (rate_of a.tuple) (rate_of y.tuple) (rate_of b.tuple) (omega (arith, high, other)) less chord
                  (permits q d (omega arith) (omega (arith, long))) (permits (q + 1) d (omega arith) (omega (arith, long)))
            ]
      ]

-- a line is taken out of an envelope
module _ (gone : Request) (rows lines : List Request) (place : ℕ) (envelope : IsEnvelopeOf (gone ∷ rows) lines) (at : StandsAt lines gone place) where
  abbrev others : List Request
  others = remove lines place

  as_many : length others + 1 ≡ length lines
  as_many = length-remove lines place at.in_range

  -- where another line stood
  stood_at : (k : ℕ) (d : Request) → k < length others
      → (j : ℕ) × (get_or others k d ≡ get_or lines j d) × (((k < place) × (j ≡ k)) ⊎ ((place ≤ k) × (j ≡ k + 1)))
  stood_at k d below =
      elim (cases_lt k place) [
        | inl before ↦ (k, get_or-remove_below lines place d k before at.in_range, inl (before, refl))
        | inr behind ↦ (k + 1, get_or-remove_above lines place d k behind at.in_range, inr (behind, refl))
      ]

  hull_of_others : IsHull others
  hull_of_others = record {
    crosses = all_pairs_remove Crosses lines place at.in_range envelope.hull.crosses;
    turns = λ i j k d before then below.
        let at_i = stood_at i d (omega arith) in
        let at_j = stood_at j d (omega arith) in
        let at_k = stood_at k d below in
        rw (at_i.1, at_j.1, at_k.1)
        (envelope.hull.turns at_i.0 at_j.0 at_k.0 d (grind (arith, at_i.2, at_j.2)) (grind (arith, at_j.2, at_k.2)) (grind (arith, at_k.2, as_many)));
  }

  of_others : (P : Request → Type 0) → All P lines → All P others
  of_others P all = All-append P (take place lines) (drop (suc place) lines) (All-take P place lines all) (All-drop P (suc place) lines all)

  -- it has another overhead
  differs : (k : ℕ) (d : Request) → k < length others → gone ≡ get_or others k d → ⊥
  differs k d below same =
      let stood = stood_at k d below in
      let overhead : gone.tuple.overhead ≡ (get_or lines stood.0 d).tuple.overhead = ap (λ (r : Request). r.tuple.overhead) (same ∙ stood.1) in
      let here : (get_or lines place d).tuple.overhead ≡ gone.tuple.overhead = ap (λ (r : Request). r.tuple.overhead) (at.is d) in
      let crosses = envelope.hull.crosses in
      elim stood.2 [
        | inl before ↦ omega (arith, overhead, here, (crosses stood.0 place d (omega (arith, before.0, before.1)) at.in_range).overhead)
        | inr behind ↦
            omega (
              arith,
              overhead,
              here,
              (crosses place stood.0 d (omega (arith, behind.0, behind.1)) (omega (arith, behind.1, as_many))).overhead,
            )
      ]

  covers_sent : (k : ℕ) (d : Request) → k < length rows → (¬ StopsMedia (get_or rows k d)) → Covers lines (get_or rows k d)
  covers_sent k d below sends = All-tail (λ r. ¬ StopsMedia r → Covers lines r) gone rows envelope.covers k d below sends

  pub IsEnvelopeButAt-remove : IsEnvelopeButAt rows others place
  IsEnvelopeButAt-remove = record {
    in_range = omega (arith, as_many, at.in_range);
    hull = hull_of_others;
    left = λ some k d below sends low p feasible.
        let y = get_or rows k d in
        let there : get_or others (place - 1) d ≡ get_or lines (place - 1) d = get_or-remove_below lines place d (place - 1) (omega arith) at.in_range in
        implied_up_to lines envelope.hull y (covers_sent k d below sends) (place - 1) d (omega (arith, at.in_range))
        (subst (λ (l : Request). y.tuple.overhead ≤ l.tuple.overhead) there (low d)) p
        (λ j e from to. subst (λ (l : Request). Permits l.tuple p) (get_or-remove_below lines place e j (omega (arith, to, some)) at.in_range)
        (feasible j e (omega (arith, to, some, as_many, at.in_range))));
    right = λ some k d below sends high p feasible.
        let y = get_or rows k d in
        let there : get_or others place d ≡ get_or lines (place + 1) d = get_or-remove_above lines place d place (omega arith) at.in_range in
        implied_from lines envelope.hull y (covers_sent k d below sends) (length lines - (place + 2)) (place + 1) d (omega (arith, some, as_many)) envelope.send
        (omega (arith, (envelope.hull.crosses place (place + 1) d (omega arith) (omega (arith, some, as_many))).overhead))
        (subst (λ (l : Request). l.tuple.overhead ≤ y.tuple.overhead) there (high d)) p
        (λ j e from to.
        let back : get_or others (j - 1) e ≡ get_or lines (j - 1 + 1) e = get_or-remove_above lines place e (j - 1) (omega (arith, from)) at.in_range in
        let same : j - 1 + 1 ≡ j = omega (arith, from) in
        subst (λ (l : Request). Permits l.tuple p) (back ∙ ap (λ i. get_or lines i e) same)
        (feasible (j - 1) e (omega (arith, from, to, as_many))));
    are_rows = λ k d below. elim (Contains-cons_cases gone rows (get_or others k d) (of_others (Contains (gone ∷ rows)) envelope.are_rows k d below)) [
      | inl is ↦ absurd (differs k d below is)
      | inr row ↦ row
    ];
    send = of_others (λ l. ¬ StopsMedia l) envelope.send;
    least_owner = λ k d below. All-tail (λ y. HasSameLine (get_or others k d) y → (get_or others k d).owner.0 ≤ y.owner.0) gone rows
        (of_others (λ x. All (λ y. HasSameLine x y → x.owner.0 ≤ y.owner.0) (gone ∷ rows)) envelope.least_owner k d below);
  }

-- a line stands where those of less overhead end
pub StandsAt-overhead : (lines : List Request) (x : Request) (at : ℕ) → IsHull lines
    → AllWithin (λ l. l.tuple.overhead < x.tuple.overhead) lines 0 at
    → AllWithin (λ l. x.tuple.overhead ≤ l.tuple.overhead) lines at (length lines)
    → Contains lines x → StandsAt lines x at
StandsAt-overhead lines x at hull before behind is =
    let found = at_from_Contains lines x is in
    let k = found.0 in
    let same : (get_or lines k x).tuple.overhead ≡ x.tuple.overhead = ap (λ (r : Request). r.tuple.overhead) (found.2 x) in
    let place : k ≡ at = elim (cases_lt k at) [
      | inl less ↦ absurd (omega (arith, before k x (omega arith) less, same))
      | inr no_less ↦
          elim (cases_lt at k) [
            | inl more ↦
                absurd (omega (arith, (hull.crosses at k x more found.1).overhead, behind at x (omega arith) (omega (arith, more, found.1)), same))
            | inr no_more ↦ omega (arith, no_less, no_more)
          ]
    ] in
    subst (StandsAt lines x) place (record { in_range = found.1; is = found.2 })
