-- An envelope of rows that send is the list of their essential lines, with the pairs and neighbours of its certificate.
use Rattle.std.proofs.Common.{◌≡◌, ℕ, zero, suc, ◌+◌, ◌*◌, ◌<◌, ◌≤◌, ◌⊎◌, List, [], ◌∷◌, length, get_or, inl, inr, refl, sym, ◌∙◌, ap, subst, arith}
use Rattle.std.specs.Prelude.{All, AllPairs, Contains}
use Rattle.std.proofs.Math.Nat.{mul-le-mul_left}
use Rattle.std.proofs.lemmas.Bool.{cases_lt, cases_eq}
use Rattle.std.proofs.lemmas.Bool.Decides.{nat_tests}
use Rattle.std.specs.List.{AllWithin}
use Rattle.std.proofs.lemmas.List.{get_or_default}
use Rattle.std.proofs.lemmas.List.Elements.{All-contains, All-from_all_within, All-nil, All-cons, Contains-get_or}
use Rattle.tmmbr_tuple.specs.Tuple.{rate_of}
use Rattle.tmmbr_tuple.specs.RatePair.{RatePair, Permits, Forbids}
use Rattle.tmmbr_tuple.proofs.RatePairLemmas.{not_both}
use Rattle.rate_cert.specs.declared.request.Request.{Request}
use Rattle.rate_cert.proofs.OwnerLemmas.{one_row}
use Rattle.bounding_set.specs.Rows.{HasRisingOwners}
use Rattle.bounding_set.specs.Canonical.{HasSameLine, StopsMedia, IsEssentialOwner, IsAnnounced}
use Rattle.bounding_set.specs.Certificate.{End, start_end, crossing_of, reach_of, right_end, pairs_from, kept_pairs}
use Rattle.bounding_set.specs.Announced.{IsAboveChord, IsCovered, IsCoveredFrom, HasPairs, AnnouncesList}
use Rattle.bounding_set.specs.Envelope.{Crosses, IsHull, Covers, IsEnvelope}
use Rattle.bounding_set.proofs.RowLemmas.{row_owner}
use Rattle.bounding_set.proofs.EndLemmas.{IsLowestEnd, IsLowestEnd-from_covers, left_of_crossing, right_of_crossing, IsAboveChord-from_end, IsBefore, crossing_before_reach, crossing_before_crossing, IsWitness, IsWitness-between}

-- each line of a hull has its ends among the rows: its crossings with its neighbours, and the reach of the last
record HasEnds (rows xs : List Request) : Type 0 where
  hull : IsHull xs
  send : All (λ l. 0 < rate_of l.tuple) xs
  left : (j k : ℕ) (d : Request) → k ≡ j + 1 → k < length xs → IsLowestEnd rows (get_or xs j d) (crossing_of (get_or xs j d) (get_or xs k d))
  right : (j k : ℕ) (d : Request) → k ≡ j + 1 → k < length xs → IsLowestEnd rows (get_or xs k d) (crossing_of (get_or xs j d) (get_or xs k d))
  reach : (j : ℕ) (d : Request) → j + 1 ≡ length xs → IsLowestEnd rows (get_or xs j d) (reach_of (get_or xs j d))

hull_behind : (x : Request) (xs : List Request) → IsHull (x ∷ xs) → IsHull xs
hull_behind x xs hull = record {
  crosses = λ i j d before below. hull.crosses (suc i) (suc j) d (omega arith) (omega arith);
  turns = λ i j k d before then below. hull.turns (suc i) (suc j) (suc k) d (omega arith) (omega arith) (omega arith);
}

ends_behind_first : (rows : List Request) (x : Request) (xs : List Request) → HasEnds rows (x ∷ xs) → HasEnds rows xs
ends_behind_first rows x xs ends = record {
  hull = hull_behind x xs ends.hull;
  send = λ k d below. ends.send (suc k) d (omega arith);
  left = λ j k d next below. ends.left (suc j) (suc k) d (omega (arith, next)) (omega arith);
  right = λ j k d next below. ends.right (suc j) (suc k) d (omega (arith, next)) (omega arith);
  reach = λ j d last. ends.reach (suc j) d (omega (arith, last));
}

-- a line with a left and a right end
record IsBetween (rows : List Request) (x : Request) (left right : End) : Type 0 where
  at_left : IsLowestEnd rows x left
  at_right : IsLowestEnd rows x right
  before : IsBefore left right

-- lines with the ends that their pairs are made of
abbrev AreBetween : List Request → End → List Request → Type 0
AreBetween rows left [] = Unit {0}
AreBetween rows left (x ∷ xs) = IsBetween rows x left (right_end x xs) × AreBetween rows (right_end x xs) xs

between_from : (rows : List Request) (a x : Request) (xs : List Request) → HasEnds rows (a ∷ x ∷ xs) → AreBetween rows (crossing_of a x) (x ∷ xs)
between_from rows a x [] ends = (
  record {
    at_left = ends.right 0 1 x refl (omega arith);
    at_right = ends.reach 1 x refl;
    before = crossing_before_reach a x (ends.hull.crosses 0 1 x (omega arith) (omega arith));
  },
  tt,
)
between_from rows a x (y ∷ ys) ends = (
  record {
    at_left = ends.right 0 1 x refl (omega arith);
    at_right = ends.left 1 2 x refl (omega arith);
    before = crossing_before_crossing a x y (ends.hull.crosses 0 1 x (omega arith) (omega arith)) (ends.hull.crosses 1 2 x (omega arith) (omega arith))
        (ends.hull.turns 0 1 2 x (omega arith) (omega arith) (omega arith));
  },
  between_from rows x y ys (ends_behind_first rows a (x ∷ y ∷ ys) ends),
)

between_from_start : (rows : List Request) (x : Request) (xs : List Request) → HasEnds rows (x ∷ xs) → IsLowestEnd rows x start_end
    → AreBetween rows start_end (x ∷ xs)
between_from_start rows x [] ends start =
    let some = ends.send 0 x (omega arith) in (
      record { at_left = start; at_right = ends.reach 0 x refl; before = omega (arith, some) },
      tt,
    )
between_from_start rows x (y ∷ ys) ends start =
    let crosses = ends.hull.crosses 0 1 x (omega arith) (omega arith) in (
      record { at_left = start; at_right = ends.left 0 1 x refl (omega arith); before = omega (arith, crosses.rate) },
      between_from rows x y ys ends,
    )

-- each line's pair is its witness
witness_at : (rows : List Request) (left : End) (xs : List Request) → AreBetween rows left xs → (j : ℕ) (d : Request) (p : RatePair) → j < length xs
    → IsWitness rows (get_or xs j d) (get_or (pairs_from left xs) j p)
witness_at rows left [] between j d p below = absurd (omega (arith, below))
witness_at rows left (x ∷ xs) between zero d p below =
    IsWitness-between rows x left (right_end x xs) between.0.at_left between.0.at_right between.0.before
witness_at rows left (x ∷ xs) between (suc j) d p below = witness_at rows (right_end x xs) xs between.1 j d p (omega (arith, below))

length-pairs_from : (left : End) (xs : List Request) → length (pairs_from left xs) ≡ length xs
length-pairs_from left [] = refl
length-pairs_from left (x ∷ xs) = ap suc (length-pairs_from (right_end x xs) xs)

-- if no line stops the media, the pairs are those between the ends
kept_pairs_send : (xs : List Request) → All (λ l. 0 < rate_of l.tuple) xs → kept_pairs xs ≡ pairs_from start_end xs
kept_pairs_send [] send = refl
kept_pairs_send (x ∷ []) send = refl
kept_pairs_send (x ∷ y ∷ []) send = grind (arith, nat_tests, send 0 x (omega arith))
kept_pairs_send (x ∷ y ∷ z ∷ zs) send = refl

-- a row that forbids a line's witness has that line
same_if_forbids : (rows : List Request) (x : Request) (p : RatePair) (k : ℕ) (d : Request) → IsWitness rows x p → k < length rows
    → Forbids (get_or rows k d).tuple p → HasSameLine x (get_or rows k d)
same_if_forbids rows x p k d witness below forbids =
    let y = get_or rows k d in
    let differs : (¬ HasSameLine x y) → ⊥ = λ n. not_both y.tuple p (witness.permitted k d below n) forbids in
    record {
      rate = elim (cases_eq (rate_of x.tuple) (rate_of y.tuple)) [ inl same ↦ same | inr other ↦ absurd (differs (λ s. other s.rate)) ];
      overhead = elim (cases_eq x.tuple.overhead y.tuple.overhead) [ inl same ↦ same | inr other ↦ absurd (differs (λ s. other s.overhead)) ];
    }

-- a line among these is the line of x, or none is
same_among : (x : Request) (xs : List Request) → ((k : ℕ) × (k < length xs) × HasSameLine x (get_or xs k x)) ⊎ All (λ l. ¬ HasSameLine x l) xs
same_among x [] = inr (All-nil (λ l. ¬ HasSameLine x l))
same_among x (y ∷ ys) =
    elim (same_among x ys) [
      | inl found ↦ inl (suc found.0, omega (arith, found.1), found.2)
      | inr none ↦
          elim (cases_eq (rate_of x.tuple) (rate_of y.tuple)) [
            | inr other ↦ inr (All-cons (λ l. ¬ HasSameLine x l) y ys (λ s. other s.rate) none)
            | inl rates ↦
                elim (cases_eq x.tuple.overhead y.tuple.overhead) [
                  | inr other ↦ inr (All-cons (λ l. ¬ HasSameLine x l) y ys (λ s. other s.overhead) none)
                  | inl overheads ↦ inl (0, omega arith, record { rate = rates; overhead = overheads })
                ]
          ]
    ]

-- a row that starts lower, if it has more overhead, follows from neighbours
covered_from : (rows : List Request) (a : Request) (xs : List Request) (k : ℕ) (d : Request) → HasEnds rows (a ∷ xs) → k < length rows
    → 0 < (get_or rows k d).tuple.overhead → IsCoveredFrom a xs (get_or rows k d)
covered_from rows a [] k d ends below some =
    let y = get_or rows k d in
    let reach = (ends.reach 0 a refl).lowest k d below in
    let sends = ends.send 0 a (omega arith) in
    let no_less : rate_of a.tuple * y.tuple.overhead ≤ rate_of y.tuple * a.tuple.overhead = omega (arith, reach) in
    elim (cases_eq a.tuple.overhead 0) [
      | inr has ↦ (omega arith, no_less)
      | inl none ↦
          let nothing : rate_of a.tuple * y.tuple.overhead ≤ rate_of y.tuple * 0 =
          subst (λ h. rate_of a.tuple * y.tuple.overhead ≤ rate_of y.tuple * h) none no_less in
          absurd (omega (arith, nothing, some, mul-le-mul_left (y.tuple.overhead) sends))
    ]
covered_from rows a (b ∷ bs) k d ends below some = (
  λ less. IsAboveChord-from_end a b (ends.hull.crosses 0 1 a (omega arith) (omega arith)) rows (ends.left 0 1 a refl (omega arith)) k d below,
  λ more. covered_from rows b bs k d (ends_behind_first rows a (b ∷ bs) ends) below some,
)

covered_by : (rows xs : List Request) (k : ℕ) (d : Request) → HasEnds rows xs → ((x : Request) (ys : List Request) → xs ≡ x ∷ ys → IsLowestEnd rows x start_end)
    → (length xs ≡ 0 → ⊥) → k < length rows → IsCovered xs (get_or rows k d)
covered_by rows [] k d ends start some below = absurd (some refl)
covered_by rows (x ∷ xs) k d ends start some below = (
  λ less. omega (arith, (start x xs refl).lowest k d below),
  λ more. covered_from rows x xs k d ends below (omega (arith, more)),
)

-- a hull's lines beside two neighbours, and beside the last
module _ (lines : List Request) (hull : IsHull lines) where
  chord_at : (j k : ℕ) (d : Request) → j + 1 < length lines → k < length lines
      → IsAboveChord (get_or lines j d) (get_or lines (j + 1) d) (get_or lines k d)
  chord_at j k d next below =
      elim (cases_eq k j) [
        | inl first ↦ rw first (omega arith)
        | inr not_first ↦
            elim (cases_eq k (j + 1)) [
              | inl second ↦ rw second (omega arith)
              | inr not_second ↦
                  elim (cases_lt k j) [
                    | inl before ↦ omega (arith, hull.turns k j (j + 1) d before (omega arith) next)
                    | inr behind ↦ omega (arith, hull.turns j (j + 1) k d (omega arith) (omega (arith, not_first, not_second, behind)) below)
                  ]
            ]
      ]

  -- no line is below the chord of two neighbours
  pub chords : (j : ℕ) (d : Request) → j + 1 < length lines → All (IsAboveChord (get_or lines j d) (get_or lines (j + 1) d)) lines
  chords j d next = λ k e below.
      subst (IsAboveChord (get_or lines j d) (get_or lines (j + 1) d)) (get_or_default lines k d e below) (chord_at j k d next below)

  -- the last line reaches least
  pub reaches_least : (j k : ℕ) (d : Request) → j + 1 ≡ length lines → k < length lines
      → rate_of (get_or lines j d).tuple * (get_or lines k d).tuple.overhead ≤ rate_of (get_or lines k d).tuple * (get_or lines j d).tuple.overhead
  reaches_least j k d last below =
      elim (cases_eq k j) [
        | inl here ↦ rw here (omega arith)
        | inr before ↦ omega (arith, (hull.crosses k j d (omega (arith, last, before)) (omega (arith, last))).reach)
      ]

module _ (rows lines : List Request) (envelope : IsEnvelope rows lines) (send : All (λ r. ¬ StopsMedia r) rows) where
  covers : All (Covers lines) rows
  covers = All-from_all_within (Covers lines) rows envelope.covers

  lines_send : All (λ l. 0 < rate_of l.tuple) lines
  lines_send = λ k d below.
      let sends = All-contains (λ r. ¬ StopsMedia r) rows (get_or lines k d) send (envelope.are_rows k d below) in
      omega (arith, sends)

  has_ends : HasEnds rows lines
  has_ends = record {
    hull = envelope.hull;
    send = lines_send;
    left = λ j k d next below. rw next (left_of_crossing (get_or lines j d) (get_or lines (j + 1) d)
        (envelope.hull.crosses j (j + 1) d (omega arith) (omega (arith, next))) rows lines covers (chords lines envelope.hull j d (omega (arith, next))));
    right = λ j k d next below. rw next (right_of_crossing (get_or lines j d) (get_or lines (j + 1) d)
        (envelope.hull.crosses j (j + 1) d (omega arith) (omega (arith, next))) rows lines covers (chords lines envelope.hull j d (omega (arith, next))));
    reach = λ j d last. IsLowestEnd-from_covers rows lines (get_or lines j d) (reach_of (get_or lines j d)) covers (omega arith)
        (λ k e below.
        let least = reaches_least lines envelope.hull j k d last below in
        subst (λ (l : Request). rate_of (get_or lines j d).tuple * (8 * (get_or lines j d).tuple.overhead) + 8 * l.tuple.overhead * rate_of (get_or lines j d).tuple
        ≤ rate_of l.tuple * (8 * (get_or lines j d).tuple.overhead) + 8 * (get_or lines j d).tuple.overhead * rate_of (get_or lines j d).tuple)
        (get_or_default lines k d e below) (omega (arith, least)));
  }

  -- without packets the first line is the lowest
  start_of : (x : Request) (xs : List Request) → lines ≡ x ∷ xs → IsLowestEnd rows x start_end
  start_of x xs is =
      IsLowestEnd-from_covers rows lines x start_end covers (omega arith)
      (subst (λ ls. All (λ l. rate_of x.tuple * 1 + 8 * l.tuple.overhead * 0 ≤ rate_of l.tuple * 1 + 8 * x.tuple.overhead * 0) ls) (sym is)
      (λ k d below. elim (cases_eq k 0) [
        | inl first ↦ rw first (omega arith)
        | inr behind ↦
            let crosses = (subst (λ ls. AllPairs Crosses ls) is envelope.hull.crosses) 0 k d (omega (arith, behind)) below in
            omega (arith, crosses.rate)
      ]))

  -- some line covers a row
  some_line : (k : ℕ) (d : Request) → k < length rows → length lines ≡ 0 → ⊥
  some_line k d below none =
      let y = get_or rows k d in
      let permitted = covers k d below (record { packets = 0; bits = rate_of y.tuple + 1; seconds = 1 }) (λ j e at. absurd (omega (arith, none))) in
      omega (arith, permitted)

  witnesses_of : (xs : List Request) → lines ≡ xs → HasEnds rows xs → (j : ℕ) (d : Request) (p : RatePair) → j < length xs
      → IsWitness rows (get_or xs j d) (get_or (pairs_from start_end xs) j p)
  witnesses_of [] is ends j d p below = absurd (omega (arith, below))
  witnesses_of (x ∷ xs) is ends j d p below =
      witness_at rows start_end (x ∷ xs) (between_from_start rows x xs ends (start_of x xs is)) j d p below

  witnesses : (j : ℕ) (d : Request) (p : RatePair) → j < length lines → IsWitness rows (get_or lines j d) (get_or (kept_pairs lines) j p)
  witnesses j d p below =
      subst (λ pairs. IsWitness rows (get_or lines j d) (get_or pairs j p)) (sym (kept_pairs_send lines lines_send))
      (witnesses_of lines refl has_ends j d p below)

  has_pairs : HasPairs rows lines (kept_pairs lines)
  has_pairs = record {
    as_many = ap length (kept_pairs_send lines lines_send) ∙ length-pairs_from start_end lines;
    forbidden = λ j d p below. (witnesses j d p below).forbidden;
    one_each = λ j k p before below place e at by_j by_k.
        let line_j = same_if_forbids rows (get_or lines j e) (get_or (kept_pairs lines) j p) place e (witnesses j e p (omega arith)) at by_j in
        let line_k = same_if_forbids rows (get_or lines k e) (get_or (kept_pairs lines) k p) place e (witnesses k e p below) at by_k in
        omega (arith, line_j.overhead, line_k.overhead, (envelope.hull.crosses j k e before below).overhead);
  }

  -- a line is announced
  line_is_announced : (x : Request) → Contains lines x → IsAnnounced rows x
  line_is_announced x at =
      let p = get_or (kept_pairs lines) at.0 (record { packets = 0; bits = 0; seconds = 0 }) in
      let witness = subst (λ l. IsWitness rows l p) at.2 (witnesses at.0 x (record { packets = 0; bits = 0; seconds = 0 }) at.1) in
      inr (inr (inr record {
        none_stopped = send;
        essential = record { pair = p; some_time = witness.some_time; forbidden = witness.forbidden; permitted = witness.permitted };
        least_owner =
            All-from_all_within (λ y. HasSameLine x y → x.owner.0 ≤ y.owner.0) rows
            (subst (λ l. AllWithin (λ y. HasSameLine l y → l.owner.0 ≤ y.owner.0) rows 0 (length rows)) at.2 (envelope.least_owner at.0 x at.1));
      }))

  -- an essential line of least owner is a line: else all lines permit its pair, and so does it
  essential_is_line : HasRisingOwners rows → (x : Request) → Contains rows x → IsEssentialOwner rows x → Contains lines x
  essential_is_line rising x is_row owner =
      elim (same_among x lines) [
        | inr none ↦
            let p = owner.essential.pair in
            let feasible : All (λ l. Permits l.tuple p) lines = λ k d below.
            All-contains (λ y. ¬ HasSameLine x y → Permits y.tuple p) rows (get_or lines k d) owner.essential.permitted (envelope.are_rows k d below)
            (none k d below) in
            absurd (not_both x.tuple p (All-contains (Covers lines) rows x covers is_row p feasible) owner.essential.forbidden)
        | inl found ↦
            let l = get_or lines found.0 x in
            let l_is_row = envelope.are_rows found.0 x found.1 in
            let no_later = All-contains (λ y. HasSameLine x y → x.owner.0 ≤ y.owner.0) rows l owner.least_owner l_is_row found.2 in
            let no_earlier = All-contains (λ y. HasSameLine l y → l.owner.0 ≤ y.owner.0) rows x
            (All-from_all_within (λ y. HasSameLine l y → l.owner.0 ≤ y.owner.0) rows (envelope.least_owner found.0 x found.1)) is_row
            record { rate = sym found.2.rate; overhead = sym found.2.overhead } in
            subst (Contains lines) (one_row row_owner rows rising l x l_is_row is_row (omega (arith, no_later, no_earlier)))
            (Contains-get_or lines found.0 x found.1)
      ]

  announced_is_line : HasRisingOwners rows → (x : Request) → Contains rows x → IsAnnounced rows x → Contains lines x
  announced_is_line rising x is_row (inl stop) = absurd (All-contains (λ r. ¬ StopsMedia r) rows x send is_row stop.stops.0)
  announced_is_line rising x is_row (inr (inl stop)) = absurd (All-contains (λ r. ¬ StopsMedia r) rows x send is_row stop.stops)
  announced_is_line rising x is_row (inr (inr (inl reach))) =
      let stop = reach.media_stopped in
      absurd (send stop.0 stop.1 stop.2 (subst StopsMedia (sym stop.3) stop.4))
  announced_is_line rising x is_row (inr (inr (inr owner))) = essential_is_line rising x is_row owner

  pub AnnouncesList-from_envelope : HasRisingOwners rows → AnnouncesList rows lines
  AnnouncesList-from_envelope rising = record {
    are_rows = envelope.are_rows;
    in_order = λ i j d before below.
        let crosses = envelope.hull.crosses i j d before below in
        record { overhead = crosses.overhead; rate = crosses.rate; reach = omega (arith, crosses.reach) };
    announced = λ x is_row. (line_is_announced x, announced_is_line rising x is_row);
    pairs = has_pairs;
    covered = λ k d below. covered_by rows lines k d has_ends start_of (some_line k d below) below;
  }
