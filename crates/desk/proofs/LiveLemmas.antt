-- The live requests of who is present.
use Rattle.std.proofs.Common.{◌≡◌, ◌⊎◌, ℕ, zero, suc, ◌+◌, ◌<◌, ◌≤◌, ◌≢◌, List, [], ◌∷◌, length, get_or, true, false, Option, Some, None, refl, sym, ap, inl, inr, subst, ◌∙◌, arith}
use Rattle.std.specs.Prelude.{option_map}
use Rattle.std.specs.List.{cons_option}
use Rattle.std.proofs.lemmas.Bool.{cases_lt, cases_eq}
use Rattle.std.proofs.lemmas.List.Kept.{AllPairs-cons}
use Rattle.std.proofs.lemmas.List.Elements.{All-cons}
use Rattle.tmmbr_tuple.specs.declared.tuple.Tuple.{Tuple}
use Rattle.rate_cert.specs.declared.request.Request.{Request}
use Rattle.rate_cert.proofs.OwnerLemmas.{OwnersAbove, rising_tail, rising_head, above_tail, rising-with, rising-without, value_for-above, value_for-head, value_for-behind}
use Rattle.bounding_set.specs.Rows.{HasRisingOwners as RowsRise, tuple_of, Puts}
use Rattle.bounding_set.proofs.RowLemmas.{row_owner, row_tuple}
use Rattle.desk.specs.declared.presence.Present.{Present}
use Rattle.desk.specs.declared.presence.Asked.{Asked}
use Rattle.desk.specs.Presence.{HasRisingOwners, HasStays, presence_of, stay_in, with_presence, without_owner, live_requests, without_old, unless_absent_with_room}
use Rattle.desk.proofs.PresenceLemmas.{IsBelow, present_owner, presence_of-first, presence_of-behind, presence_of-with, presence_of-with_other, presence_of-without, presence_of-without_other, present_with_stay, rising-aged, absent-arrive, aged, is_aged, presence_of-aged, presence_of-aged_other, without_old-old, aged-young}

-- these requests have greater owners
abbrev AreAbove : ℕ → List Request → Type 0
AreAbove owner rows = OwnersAbove row_owner owner rows

-- ---- rows and what their owners ask for

tuple_of-above : (rows : List Request) (owner : ℕ) → AreAbove owner rows → tuple_of rows owner ≡ None
tuple_of-above rows owner above = value_for-above row_owner row_tuple rows owner above

tuple_of-first : (r : Request) (rows : List Request) (owner : ℕ) → r.owner.0 ≡ owner → tuple_of (r ∷ rows) owner ≡ Some r.tuple
tuple_of-first r rows owner same = value_for-head row_owner row_tuple r rows owner same

tuple_of-behind : (r : Request) (rows : List Request) (owner : ℕ) → r.owner.0 ≢ owner → tuple_of (r ∷ rows) owner ≡ tuple_of rows owner
tuple_of-behind r rows owner differs = value_for-behind row_owner row_tuple r rows owner differs

-- the first row of such a list isn't above that of one with the same tuples
not_above : (x : Request) (xs : List Request) (y : Request) (ys : List Request) → RowsRise (y ∷ ys)
    → tuple_of (x ∷ xs) x.owner.0 ≡ tuple_of (y ∷ ys) x.owner.0 → x.owner.0 < y.owner.0 → ⊥
not_above x xs y ys rising same lt =
    let above : AreAbove x.owner.0 (y ∷ ys) =
    All-cons (λ (r : Request). x.owner.0 < r.owner.0) y ys lt (λ k d within. omega (arith, lt, rising_head row_owner y ys rising k d within)) in
    let none = tuple_of-above (y ∷ ys) x.owner.0 above in
    let some = tuple_of-first x xs x.owner.0 refl in
    let no : Some x.tuple ≡ None = sym some ∙ same ∙ none in
    cc

-- rows by rising owner are known by what each owner asks for
pub rows_by_tuples : (xs ys : List Request) → RowsRise xs → RowsRise ys → ((q : ℕ) → tuple_of xs q ≡ tuple_of ys q) → xs ≡ ys
rows_by_tuples [] [] rise_x rise_y same = refl
rows_by_tuples [] (y ∷ ys) rise_x rise_y same =
    let no : None ≡ Some y.tuple = same y.owner.0 ∙ tuple_of-first y ys y.owner.0 refl in
    cc
rows_by_tuples (x ∷ xs) [] rise_x rise_y same =
    let no : Some x.tuple ≡ None = sym (tuple_of-first x xs x.owner.0 refl) ∙ same x.owner.0 in
    cc
rows_by_tuples (x ∷ xs) (y ∷ ys) rise_x rise_y same =
    let owners : x.owner.0 ≡ y.owner.0 = elim (cases_lt x.owner.0 y.owner.0) [
      | inl lt ↦ absurd (not_above x xs y ys rise_y (same x.owner.0) lt)
      | inr from ↦ elim (cases_lt y.owner.0 x.owner.0) [
        | inl lt ↦ absurd (not_above y ys x xs rise_x (sym (same y.owner.0)) lt)
        | inr other ↦ omega (arith, from, other)
      ]
    ] in
    let asked : Some x.tuple ≡ Some y.tuple =
    sym (tuple_of-first x xs x.owner.0 refl) ∙ same x.owner.0 ∙ tuple_of-first y ys x.owner.0 (sym owners) in
    let tuples : x.tuple ≡ y.tuple = cc in
    let rest : xs ≡ ys = rows_by_tuples xs ys (rising_tail row_owner x xs rise_x) (rising_tail row_owner y ys rise_y) (λ q.
    elim (cases_eq x.owner.0 q) [
      | inl is ↦
          tuple_of-above xs q (λ k d within. omega (arith, is, rising_head row_owner x xs rise_x k d within))
          ∙ sym (tuple_of-above ys q (λ k d within. omega (arith, is, owners, rising_head row_owner y ys rise_y k d within)))
      | inr differs ↦
          sym (tuple_of-behind x xs q differs) ∙ same q ∙ tuple_of-behind y ys q (λ is. differs (owners ∙ is))
    ]) in
    ap (λ (n : ℕ). record { owner = record { 0 = n }; tuple = x.tuple } ∷ xs) owners
    ∙ ap (λ (t : Tuple). record { owner = y.owner; tuple = t } ∷ xs) tuples
    ∙ ap (λ rows. y ∷ rows) rest

-- ---- the live requests, one by one

cases_asked : (asked : Option Asked) → (asked ≡ None) ⊎ ((a : Asked) × (asked ≡ Some a))
cases_asked None = inl refl
cases_asked (Some a) = inr (a, refl)

abbrev row_of : Present → Asked → Request
row_of p a = record { owner = p.owner; tuple = a.tuple }

live-none : (p : Present) (present : List Present) → p.asked ≡ None → live_requests (p ∷ present) ≡ live_requests present
live-none p present none = ap (λ asked. cons_option (option_map (row_of p) asked) (live_requests present)) none

live-some : (p : Present) (present : List Present) (a : Asked) → p.asked ≡ Some a → live_requests (p ∷ present) ≡ row_of p a ∷ live_requests present
live-some p present a some = ap (λ asked. cons_option (option_map (row_of p) asked) (live_requests present)) some

pub live-above : (present : List Present) (owner : ℕ) → IsBelow owner present → AreAbove owner (live_requests present)
live-above [] owner below = λ k d within. absurd (omega arith)
live-above (p ∷ present) owner below =
    let rest = live-above present owner (above_tail present_owner owner p present below) in
    elim (cases_asked p.asked) [
      | inl none ↦ subst (AreAbove owner) (sym (live-none p present none)) rest
      | inr some ↦
          subst (AreAbove owner) (sym (live-some p present some.0 some.1))
          (All-cons (λ (r : Request). owner < r.owner.0) (row_of p some.0) (live_requests present) (below zero p (omega arith)) rest)
    ]

pub live-rising : (present : List Present) → HasRisingOwners present → RowsRise (live_requests present)
live-rising [] rising = λ i j d before within. absurd (omega arith)
live-rising (p ∷ present) rising =
    let rest = live-rising present (rising_tail present_owner p present rising) in
    elim (cases_asked p.asked) [
      | inl none ↦ subst RowsRise (sym (live-none p present none)) rest
      | inr some ↦
          subst RowsRise (sym (live-some p present some.0 some.1))
          (AllPairs-cons (λ (x y : Request). x.owner.0 < y.owner.0) (row_of p some.0) (live_requests present)
          (live-above present p.owner.0 (rising_head present_owner p present rising)) rest)
    ]

pub few_live : (present : List Present) → length (live_requests present) ≤ length present
few_live [] = omega arith
few_live (p ∷ present) =
    elim (cases_asked p.asked) [
      | inl none ↦ omega (arith, ap length (live-none p present none), few_live present)
      | inr some ↦ omega (arith, ap length (live-some p present some.0 some.1), few_live present)
    ]

-- ---- what an owner asks for

abbrev pub tuple_in : Option Asked → Option Tuple
tuple_in asked = option_map (λ (a : Asked). a.tuple) asked

abbrev pub asked_by : Option Present → Option Tuple
asked_by None = None
asked_by (Some p) = tuple_in p.asked

-- one more that is present changes what the others ask for not at all
tuple_of-others : (p : Present) (present : List Present) (owner : ℕ) → (p.owner.0 ≡ owner → ⊥)
    → tuple_of (live_requests (p ∷ present)) owner ≡ tuple_of (live_requests present) owner
tuple_of-others p present owner differs =
    elim (cases_asked p.asked) [
      | inl none ↦ ap (λ rows. tuple_of rows owner) (live-none p present none)
      | inr some ↦
          ap (λ rows. tuple_of rows owner) (live-some p present some.0 some.1)
          ∙ tuple_of-behind (row_of p some.0) (live_requests present) owner differs
    ]

-- the live request of an owner is what it asks for in its stay
pub tuple_of-live : (present : List Present) (owner : ℕ) → HasRisingOwners present
    → tuple_of (live_requests present) owner ≡ asked_by (presence_of present owner)
tuple_of-live [] owner rising = refl
tuple_of-live (p ∷ present) owner rising =
    elim (cases_eq p.owner.0 owner) [
      | inr differs ↦
          tuple_of-others p present owner differs
          ∙ tuple_of-live present owner (rising_tail present_owner p present rising)
          ∙ sym (ap asked_by (presence_of-behind p present owner differs))
      | inl same ↦
          let its = ap asked_by (presence_of-first p present owner same) in
          elim (cases_asked p.asked) [
            | inl none ↦
                let below : IsBelow owner present = λ k d within. omega (arith, same, rising_head present_owner p present rising k d within) in
                ap (λ rows. tuple_of rows owner) (live-none p present none)
                ∙ tuple_of-above (live_requests present) owner (live-above present owner below)
                ∙ sym (ap tuple_in none)
                ∙ sym its
            | inr some ↦
                ap (λ rows. tuple_of rows owner) (live-some p present some.0 some.1)
                ∙ tuple_of-first (row_of p some.0) (live_requests present) owner same
                ∙ sym (ap tuple_in some.1)
                ∙ sym its
          ]
    ]

-- ---- calls

-- rows in which this owner asks for what it now does, and the others for what they did, are the live requests
live-put : (present now : List Present) (rows : List Request) (owner : ℕ) (tuple : Option Tuple)
    → HasRisingOwners present → HasRisingOwners now
    → asked_by (presence_of now owner) ≡ tuple → ((other : ℕ) → other ≢ owner → presence_of now other ≡ presence_of present other)
    → RowsRise rows → Puts (live_requests present) rows owner tuple → rows ≡ live_requests now
live-put present now rows owner tuple rising rising_now asks others rows_rise puts =
    rows_by_tuples rows (live_requests now) rows_rise (live-rising now rising_now) (λ q.
    elim (cases_eq q owner) [
      | inl same ↦
          ap (tuple_of rows) same
          ∙ puts.changed
          ∙ sym asks
          ∙ sym (tuple_of-live now owner rising_now)
          ∙ ap (tuple_of (live_requests now)) (sym same)
      | inr differs ↦
          puts.others q differs
          ∙ tuple_of-live present q rising
          ∙ ap asked_by (sym (others q differs))
          ∙ sym (tuple_of-live now q rising_now)
    ])

pub live-requested : (present : List Present) (new : Present) (asked : Asked) (rows : List Request) → HasRisingOwners present
    → RowsRise rows → new.asked ≡ Some asked → Puts (live_requests present) rows new.owner.0 (Some asked.tuple)
    → rows ≡ live_requests (with_presence present new)
live-requested present new asked rows rising rows_rise asks puts =
    live-put present (with_presence present new) rows new.owner.0 (Some asked.tuple) rising (rising-with present_owner present new rising)
    (ap asked_by (presence_of-with present new) ∙ ap tuple_in asks) (presence_of-with_other present new) rows_rise puts

pub live-departed : (present : List Present) (rows : List Request) (owner : ℕ) → HasRisingOwners present
    → RowsRise rows → Puts (live_requests present) rows owner None → rows ≡ live_requests (without_owner present owner)
live-departed present rows owner rising rows_rise puts =
    live-put present (without_owner present owner) rows owner None rising (rising-without present_owner present owner rising)
    (ap asked_by (presence_of-without present owner)) (presence_of-without_other present owner) rows_rise puts

pub live-arrived : (present : List Present) (new : Present) → HasRisingOwners present → HasStays present
    → new.asked ≡ None → unless_absent_with_room present new.owner.0 ≡ None → live_requests present ≡ live_requests (with_presence present new)
live-arrived present new rising stays quiet accepted =
    let nothing : tuple_of (live_requests present) new.owner.0 ≡ None =
    tuple_of-live present new.owner.0 rising ∙ ap asked_by (absent-arrive present new.owner.0 stays accepted) in
    live-put present (with_presence present new) (live_requests present) new.owner.0 None rising (rising-with present_owner present new rising)
    (ap asked_by (presence_of-with present new) ∙ ap tuple_in quiet) (presence_of-with_other present new) (live-rising present rising)
    (record { changed = nothing; others = λ other differs. refl })

-- the next request that is too old is removed
pub live-aged : (request_ms now n : ℕ) (present : List Present) (p : Present) (rows : List Request) → HasRisingOwners present → n < length present
    → p ≡ get_or present n p → is_aged request_ms now p ≡ true → RowsRise rows
    → Puts (live_requests (aged request_ms now n present)) rows p.owner.0 None → rows ≡ live_requests (aged request_ms now (suc n) present)
live-aged request_ms now n present p rows rising below is old rows_rise puts =
    let here : presence_of (aged request_ms now (suc n) present) p.owner.0 ≡ Some (without_old request_ms now p) =
    subst (λ (q : Present). presence_of (aged request_ms now (suc n) present) q.owner.0 ≡ Some (without_old request_ms now q)) (sym is)
    (presence_of-aged request_ms now n present p rising below) in
    live-put (aged request_ms now n present) (aged request_ms now (suc n) present) rows p.owner.0 None
    (rising-aged request_ms now n present rising) (rising-aged request_ms now (suc n) present rising)
    (ap asked_by here ∙ ap (λ (q : Present). tuple_in q.asked) (without_old-old request_ms now p old))
    (λ other differs. presence_of-aged_other request_ms now n present p other below
    (λ same. differs (same ∙ sym (ap (λ (q : Present). q.owner.0) is))))
    rows_rise puts

-- what a walk that removes them leaves after one more
pub live_old : (request_ms now n : ℕ) (present : List Present) (p : Present) (before rows : List Request) → HasRisingOwners present
    → n < length present → before ≡ live_requests (aged request_ms now n present)
    → p ≡ get_or present n p → is_aged request_ms now p ≡ true → RowsRise rows → Puts before rows p.owner.0 None
    → rows ≡ live_requests (aged request_ms now (n + 1) present)
live_old request_ms now n present p before rows rising below is read old rows_rise puts =
    let next : suc n ≡ n + 1 = omega arith in
    live-aged request_ms now n present p rows rising below read old rows_rise
    (subst (λ (bs : List Request). Puts bs rows p.owner.0 None) is puts)
    ∙ ap (λ k. live_requests (aged request_ms now k present)) next

pub live_young : (request_ms now n : ℕ) (present : List Present) (p : Present) (rows : List Request)
    → n < length present → rows ≡ live_requests (aged request_ms now n present)
    → p ≡ get_or present n p → is_aged request_ms now p ≡ false → rows ≡ live_requests (aged request_ms now (n + 1) present)
live_young request_ms now n present p rows below is read young =
    let next : suc n ≡ n + 1 = omega arith in
    is
    ∙ ap live_requests (sym (aged-young request_ms now n present p below (sym (ap (is_aged request_ms now) read) ∙ young)))
    ∙ ap (λ k. live_requests (aged request_ms now k present)) next

-- an owner that is present and asks for nothing yet leaves room for its request
pub room_for_request : (present : List Present) (owner : ℕ) → 1 ≤ stay_in present owner
    → tuple_of (live_requests present) owner ≡ None → length (live_requests present) + 1 ≤ length present
room_for_request present owner from none = room present (present_with_stay present owner from) none
  where
    room : (present : List Present) → (presence_of present owner ≡ None → ⊥) → tuple_of (live_requests present) owner ≡ None
        → length (live_requests present) + 1 ≤ length present
    room [] is none = absurd (is refl)
    room (p ∷ present) is none =
        elim (cases_asked p.asked) [
          | inl quiet ↦ omega (arith, ap length (live-none p present quiet), few_live present)
          | inr some ↦
              elim (cases_eq p.owner.0 owner) [
                | inl same ↦
                    let asks : tuple_of (live_requests (p ∷ present)) owner ≡ Some some.0.tuple =
                    ap (λ rows. tuple_of rows owner) (live-some p present some.0 some.1)
                    ∙ tuple_of-first (row_of p some.0) (live_requests present) owner same in
                    let no : None ≡ Some some.0.tuple = sym none ∙ asks in
                    cc
                | inr differs ↦
                    let behind = presence_of-behind p present owner differs in
                    let rest = room present (λ gone. is (behind ∙ gone)) (sym (tuple_of-others p present owner differs) ∙ none) in
                    omega (arith, ap length (live-some p present some.0 some.1), rest)
              ]
        ]
