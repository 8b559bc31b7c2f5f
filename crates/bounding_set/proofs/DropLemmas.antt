-- How many lines a splice drops, and how many tests a call takes.
use Rattle.std.proofs.Common.{refl, false, ◌==◌, Some, ◌≡◌, ◌≢◌, ℕ, zero, suc, ◌+◌, ◌-◌, ◌*◌, ◌<◌, ◌≤◌, Bool, true, cond, List, [], ◌∷◌, ◌++◌, length, get_or, take, drop, None, sym, ap, ◌∙◌, subst, lit<, arith}
use Rattle.std.specs.Prelude.{All, Contains, count_by, not, is_some}
use Rattle.std.proofs.lemmas.Bool.{eq-eqb}
use Rattle.std.proofs.lemmas.Bool.Decides.{nat_tests}
use Rattle.std.proofs.lemmas.List.{get_or_default, get_or-take, get_or-drop, length-take, length-drop}
use Rattle.std.proofs.lemmas.List.Elements.{All-append, All-cons, All-contains, AllWithin-from_all, Contains-get_or, Contains-append_left, Contains-append_right}
use Rattle.std.proofs.lemmas.List.Sums.{sum_by-cons}
use Rattle.rate_cert.specs.declared.certificate.TheConstants.{MAX_REQUESTS}
use Rattle.rate_cert.specs.declared.request.Request.{Request}
use Rattle.rate_cert.proofs.OwnerLemmas.{one_row, value_for-absent}
use Rattle.bounding_set.specs.Rows.{HasRisingOwners, tuple_of}
use Rattle.bounding_set.specs.Envelope.{IsEnvelopeOf}
use Rattle.bounding_set.specs.Spliced.{IsSpliced}
use Rattle.bounding_set.specs.State.{dropped_count}
use Rattle.bounding_set.proofs.RowLemmas.{row_owner, row_tuple}
use Rattle.bounding_set.proofs.CertificateLemmas.{no_more_than_rows}
use Rattle.bounding_set.proofs.MemberLemmas.{absent_owner}

-- tests of one call stay below 2^32: for each row put back, and for one more, at most four beside the lines
pub tests_fit : MAX_REQUESTS * (MAX_REQUESTS + 4) + MAX_REQUESTS + 4 < 4294967296
tests_fit = lit< tt

-- an envelope has no more lines than there are rows
pub lines_within : (rows lines : List Request) → IsEnvelopeOf rows lines → length lines ≤ length rows
lines_within rows lines envelope = no_more_than_rows rows lines envelope.are_rows (λ i j d before below.
    let crosses = envelope.hull.crosses i j d before below in
    record { overhead = crosses.overhead; rate = crosses.rate; reach = omega (arith, crosses.reach) })

-- if all between two places pass a test, at least as many do
count_between : {X : Type 0} (p : X → Bool) (xs : List X) (low high : ℕ) → high ≤ length xs
    → ((k : ℕ) (d : X) → low ≤ k → k < high → p (get_or xs k d) ≡ true) → high - low ≤ count_by p xs
count_between p [] low high within holds = omega (arith, within)
count_between p (x ∷ xs) low zero within holds = omega arith
count_between p (x ∷ xs) zero (suc high) within holds =
    let rest = count_between p xs 0 high (omega arith) (λ k d from below. holds (suc k) d (omega arith) (omega arith)) in
    let here : p x ≡ true = holds 0 x (omega arith) (omega arith) in
    let tally : Bool → ℕ = λ b. cond b 1 0 in
    let one : tally (p x) ≡ 1 = ap tally here in
    omega (arith, rest, one, sum_by-cons (λ y. tally (p y)) x xs)
count_between p (x ∷ xs) (suc low) (suc high) within holds =
    let rest = count_between p xs low high (omega arith) (λ k d from below. holds (suc k) d (omega arith) (omega arith)) in
    let tally : Bool → ℕ = λ b. cond b 1 0 in
    omega (arith, rest, sum_by-cons (λ y. tally (p y)) x xs)

-- if none outside of two places passes a test, no more do than stand between them
count_within : {X : Type 0} (p : X → Bool) (xs : List X) (low high : ℕ)
    → ((k : ℕ) (d : X) → k < length xs → k < low → p (get_or xs k d) ≡ false)
    → ((k : ℕ) (d : X) → k < length xs → high ≤ k → p (get_or xs k d) ≡ false) → count_by p xs ≤ high - low
count_within p [] low high before behind = omega arith
count_within p (x ∷ xs) low zero before behind =
    let rest = count_within p xs 0 0 (λ k d below from. absurd (omega arith)) (λ k d below from. behind (suc k) d (omega arith) (omega arith)) in
    let here : p x ≡ false = behind 0 x (omega arith) (omega arith) in
    let tally : Bool → ℕ = λ b. cond b 1 0 in
    let none : tally (p x) ≡ 0 = ap tally here in
    omega (arith, rest, none, sum_by-cons (λ y. tally (p y)) x xs)
count_within p (x ∷ xs) zero (suc high) before behind =
    let rest = count_within p xs 0 high (λ k d below from. absurd (omega arith)) (λ k d below from. behind (suc k) d (omega arith) (omega arith)) in
    let tally : Bool → ℕ = λ b. cond b 1 0 in
    let one : tally (p x) ≤ 1 = elim (p x) as (λ b. tally b ≤ 1) [ true ↦ omega arith | false ↦ omega arith ] in
    omega (arith, rest, one, sum_by-cons (λ y. tally (p y)) x xs)
count_within p (x ∷ xs) (suc low) (suc high) before behind =
    let rest = count_within p xs low high (λ k d below upto. before (suc k) d (omega arith) (omega arith)) (λ k d below from. behind (suc k) d (omega arith) (omega arith)) in
    let here : p x ≡ false = before 0 x (omega arith) (omega arith) in
    let tally : Bool → ℕ = λ b. cond b 1 0 in
    let none : tally (p x) ≡ 0 = ap tally here in
    omega (arith, rest, none, sum_by-cons (λ y. tally (p y)) x xs)

-- the owner of a request that stands in a list has a request there
pub owner_has : (rows : List Request) (k : ℕ) (r : Request) → k < length rows → get_or rows k r ≡ r → is_some (tuple_of rows r.owner.0) ≡ true
owner_has [] k r below is = absurd (omega arith)
owner_has (q ∷ rows) zero r below is =
    let same : (q.owner.0 == r.owner.0) ≡ true = eq-eqb _ _ (ap (λ (z : Request). z.owner.0) is) in
    ap (λ b. is_some (cond b (Some q.tuple) (tuple_of rows r.owner.0))) same
owner_has (q ∷ rows) (suc k) r below is =
    let rest = owner_has rows k r (omega arith) is in
    elim (q.owner.0 == r.owner.0) as (λ b. is_some (cond b (Some q.tuple) (tuple_of rows r.owner.0)) ≡ true) [ true ↦ refl | false ↦ rest ]

-- who stands in the new list too isn't dropped
stays_undropped : (new : List Request) (r : Request) → Contains new r → not (is_some (tuple_of new r.owner.0)) ≡ false
stays_undropped new r has = ap not (owner_has new has.0 r has.1 has.2)

-- a list drops nothing of itself
pub none_dropped : (lines : List Request) → dropped_count lines lines ≡ 0
none_dropped lines =
    let p : Request → Bool = λ r. not (is_some (tuple_of lines r.owner.0)) in
    let few : count_by p lines ≤ 0 - 0 = count_within p lines 0 0 (λ k d below from. absurd (omega arith))
    (λ k d below from. stays_undropped lines (get_or lines k d) (Contains-get_or lines k d below)) in
    omega (arith, few)

-- no more are dropped than stood between
pub dropped_within : (old new : List Request) (x : Request) (tests : ℕ) (s : IsSpliced old x new tests) → dropped_count old new ≤ s.high - s.low
dropped_within old new x tests s =
    let there : (r : Request) → Contains (take s.low old ++ x ∷ drop s.high old) r → not (is_some (tuple_of new r.owner.0)) ≡ false = λ r has.
    stays_undropped new r (subst (λ ls. Contains ls r) (sym s.is) has) in
    count_within (λ r. not (is_some (tuple_of new r.owner.0))) old s.low s.high
    (λ k d below upto.
    let r = get_or old k d in
    let in_take : k < length (take s.low old) = omega (arith, length-take s.low old, below, upto) in
    there r (Contains-append_left (take s.low old) (x ∷ drop s.high old) r
    (subst (Contains (take s.low old)) (get_or-take s.low old k d upto) (Contains-get_or (take s.low old) k d in_take))))
    (λ k d below from.
    let r = get_or old k d in
    let at : s.high + (k - s.high) ≡ k = omega arith in
    let in_drop : k - s.high < length (drop s.high old) = omega (arith, length-drop s.high old, below, from) in
    let same : get_or (drop s.high old) (k - s.high) d ≡ r = get_or-drop s.high old (k - s.high) d ∙ ap (λ n. get_or old n d) at in
    there r (Contains-append_right (take s.low old) (x ∷ drop s.high old) r
    (Contains-append_right (x ∷ []) (drop s.high old) r
    (subst (Contains (drop s.high old)) same (Contains-get_or (drop s.high old) (k - s.high) d in_drop)))))

module _ (rows old new : List Request) (x : Request) (rising : HasRisingOwners rows) (envelope : IsEnvelopeOf rows old)
    (absent : tuple_of rows x.owner.0 ≡ None) where
  -- two lines have two owners
  owners_differ : (i j : ℕ) (d e : Request) → i < j → j < length old → (get_or old i d).owner.0 ≢ (get_or old j e).owner.0
  owners_differ i j d e before below same =
      let l = get_or old i d in
      let m = get_or old j e in
      let at : get_or old j d ≡ m = get_or_default old j d e below in
      let one : l ≡ m = one_row row_owner rows rising l m (envelope.are_rows i d (omega arith)) (envelope.are_rows j e below) same in
      let rise = (envelope.hull.crosses i j d before below).overhead in
      omega (arith, rise, ap (λ (r : Request). r.tuple.overhead) (one ∙ sym at))

  -- whose line is dropped has none any more
  dropped_has_none : (tests : ℕ) (s : IsSpliced old x new tests) (k : ℕ) (d : Request) → s.low ≤ k → k < s.high
      → tuple_of new (get_or old k d).owner.0 ≡ None
  dropped_has_none tests s k d from upto =
      let owner = (get_or old k d).owner.0 in
      let below : k < length old = omega (arith, s.in_range) in
      let x_differs : x.owner.0 ≢ owner = λ same.
      absurd (All-contains (λ r. r.owner.0 ≢ x.owner.0) rows (get_or old k d) (absent_owner rows x.owner.0 rising absent)
      (envelope.are_rows k d below) (sym same)) in
      let differ : All (λ r. r.owner.0 ≢ owner) (take s.low old ++ x ∷ drop s.high old) =
      All-append (λ r. r.owner.0 ≢ owner) (take s.low old) (x ∷ drop s.high old)
      (λ i e at.
      let before : i < s.low = omega (arith, length-take s.low old, at) in
      subst (λ (r : Request). r.owner.0 ≢ owner) (sym (get_or-take s.low old i e before)) (owners_differ i k e d (omega arith) below))
      (All-cons (λ r. r.owner.0 ≢ owner) x (drop s.high old) x_differs
      (λ i e at.
      let behind : s.high + i < length old = omega (arith, length-drop s.high old, at) in
      subst (λ (r : Request). r.owner.0 ≢ owner) (sym (get_or-drop s.high old i e))
      (λ same. owners_differ k (s.high + i) d e (omega arith) behind (sym same)))) in
      value_for-absent row_owner row_tuple new owner (AllWithin-from_all (λ r. r.owner.0 ≢ owner) new (subst (All (λ r. r.owner.0 ≢ owner)) (sym s.is) differ))

  pub dropped_between : (tests : ℕ) (s : IsSpliced old x new tests) → s.high - s.low ≤ dropped_count old new
  dropped_between tests s = count_between (λ r. not (is_some (tuple_of new r.owner.0))) old s.low s.high s.in_range (λ k d from upto. grind (arith, nat_tests, dropped_has_none tests s k d from upto))
