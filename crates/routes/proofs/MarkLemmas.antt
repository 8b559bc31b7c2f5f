-- Beginnings of one book of publications, and the step that makes one more.
use Rattle.std.proofs.Common.{◌≡◌, ℕ, ◌+◌, ◌*◌, ◌<◌, ◌≤◌, ◌==◌, Bool, true, false, List, [], ◌∷◌, ◌++◌, length, refl, ap, sym, ◌∙◌, arith, inl, inr, length-append, length-set, get_or-set_same, get_or-set_other, None, MatchBool, IsTrue, ◌↔◌, leb}
use Rattle.std.specs.Prelude.{slice_set}
use Rattle.std.proofs.lemmas.List.{append-nil, get_or_append_left}
use Rattle.std.proofs.lemmas.Bool.{cases_eq, cases_lt, eqb-true, eq-eqb}
use Rattle.std.proofs.lemmas.Bool.Decides.{nat_tests}
use mathlib.Core.List.{IsPrefix}
use prog.Atomic.{either}
use Rattle.logbook.specs.Pages.{Cell, cell, keeps, gives, adds, nib, no_nib, may_make, may_write, step, Moves, Goes}
use Rattle.routes.specs.Publications.{Publication, IsCounted, Opens, Publishes}

-- of two beginnings of one list the shorter begins the longer
pub prefix_shorter : {A : Type 0} (xs ys zs : List A) → IsPrefix xs zs → IsPrefix ys zs → length xs ≤ length ys → IsPrefix xs ys
prefix_shorter [] ys zs p q le = (ys, refl)
prefix_shorter (x ∷ xs) [] zs p q le = absurd (omega arith)
prefix_shorter (x ∷ xs) (y ∷ ys) [] p q le = absurd (cc (p.1))
prefix_shorter (x ∷ xs) (y ∷ ys) (z ∷ zs) p q le =
    let heads : x ≡ y = cc (p.1, q.1) in
    let rest = prefix_shorter xs ys zs (p.0, cc (p.1)) (q.0, cc (q.1)) (omega arith) in
    (rest.0, cc (heads, rest.1))

-- a beginning as long as the whole is the whole
pub prefix_whole : {A : Type 0} (xs ys : List A) → IsPrefix xs ys → length ys ≤ length xs → xs ≡ ys
prefix_whole [] [] p le = refl
prefix_whole [] (y ∷ ys) p le = absurd (omega arith)
prefix_whole (x ∷ xs) [] p le = absurd (cc (p.1))
prefix_whole (x ∷ xs) (y ∷ ys) p le =
    let rest = prefix_whole xs ys (p.0, cc (p.1)) (omega arith) in cc (p.1, rest)

-- which of two beginnings begins the other
pub begins_by : {A : Type 0} (xs ys zs : List A) (n m : ℕ) → n ≡ length xs → m ≡ length ys → IsPrefix xs zs → IsPrefix ys zs
    → (b : Bool) → leb n m ≡ b → MatchBool b (IsPrefix xs ys) (IsPrefix ys xs)
begins_by xs ys zs n m nx my p q true is = let le : n ≤ m = grind (arith, nat_tests) in prefix_shorter xs ys zs p q (omega arith)
begins_by xs ys zs n m nx my p q false is = let lt : m < n = grind (arith, nat_tests) in prefix_shorter ys xs zs q p (omega arith)

-- a beginning is no longer than the whole
pub no_longer : {A : Type 0} (xs ys : List A) (n m : ℕ) → n ≡ length xs → m ≡ length ys → IsPrefix xs ys → IsTrue (leb n m)
no_longer xs ys n m nx my p =
    let le : n ≤ m = omega (arith, ap length p.1, length-append xs p.0) in grind (arith, nat_tests)

-- two beginnings are the same exactly if they are as long
pub same_by : {A : Type 0} (xs ys zs : List A) (n m : ℕ) → n ≡ length xs → m ≡ length ys → IsPrefix xs zs → IsPrefix ys zs
    → IsTrue (n == m) ↔ (xs ≡ ys)
same_by xs ys zs n m nx my p q = (
  λ is. let e : n ≡ m = grind (arith, nat_tests) in prefix_whole xs ys (prefix_shorter xs ys zs p q (omega arith)) (omega arith),
  λ e. let len : length xs ≡ length ys = ap length e in let same : n ≡ m = omega arith in grind (arith, nat_tests),
)

-- ---- steps of the book

abbrev pub shown : List Publication → List Publication
shown log = []

abbrev pub moved : List Publication → List Publication → ℕ → Type 0
moved xs ys n = Unit {0}

-- a word that comes home leaves those at home that were
home_set : (cs : List Cell) (j x n : ℕ) → j < length cs → ((k : ℕ) → k < n → (k ≡ j → ⊥) → (cell cs k).1 ≡ true)
    → (k : ℕ) → k < n → (cell (slice_set cs j (x, true)) k).1 ≡ true
home_set cs j x n inside home k below =
    elim (cases_eq k j) [
      | inl same ↦ rw same (ap (λ (c : Cell). c.1) (get_or-set_same cs j (x, true) (0, false) inside))
      | inr other ↦ ap (λ (c : Cell). c.1) (get_or-set_other cs j k (x, true) (0, false) other) ∙ home k below other
    ]

-- the first word as it was
counted_set : (cs : List Cell) (log : List Publication) (x : ℕ) → (h : IsCounted cs log) → x ≡ (cell cs 0).0 → IsCounted (slice_set cs 0 (x, true)) log
counted_set cs log x h same =
    let inside : 0 < length cs = omega (arith, h.words) in
    record {
      rights = h.rights;
      one = h.one;
      head = get_or-set_same cs 0 (x, true) (0, false) inside ∙ ap (λ (n : ℕ). (n, true)) (same ∙ ap (λ (c : Cell). c.0) h.head);
      words = length-set cs 0 (x, true) ∙ h.words;
      home = home_set cs 0 x (length log + 2) inside (λ k below other. h.home k below);
    }

-- a right to publish, if there is none
counted_open : (cs : List Cell) (log : List Publication) (n : ℕ) → (h : IsCounted cs log) → (cell cs 0).0 ≡ 2 * n
    → IsCounted (slice_set cs 0 (2 * n + 1, true) ++ (0, false) ∷ []) log
counted_open cs log n h found =
    let inside : 0 < length cs = omega (arith, h.words) in
    let is : 2 * n ≡ 2 * length log + h.rights = sym found ∙ ap (λ (c : Cell). c.0) h.head in
    let none : h.rights ≡ 0 = omega (arith, is, h.one) in
    let size : length (slice_set cs 0 (2 * n + 1, true)) ≡ length log + 2 = omega (arith, length-set cs 0 (2 * n + 1, true), h.words, none) in
    let left : (k : ℕ) → k < length log + 2 → cell (slice_set cs 0 (2 * n + 1, true) ++ (0, false) ∷ []) k ≡ cell (slice_set cs 0 (2 * n + 1, true)) k =
    λ k below. get_or_append_left (slice_set cs 0 (2 * n + 1, true)) ((0, false) ∷ []) (0, false) k (omega (arith, size, below)) in
    record {
      rights = 1;
      one = omega arith;
      head = left 0 (omega arith) ∙ get_or-set_same cs 0 (2 * n + 1, true) (0, false) inside ∙ ap (λ (m : ℕ). (m, true)) (omega (arith, is, none));
      words = omega (arith, length-append (slice_set cs 0 (2 * n + 1, true)) ((0, false) ∷ []), size);
      home = λ k below. ap (λ (c : Cell). c.1) (left k below) ∙ home_set cs 0 (2 * n + 1) (length log + 2) inside (λ j low other. h.home j low) k below;
    }

-- who holds the right to publish has seen how many publications there are
right_counts : (cs : List Cell) (log : List Publication) (n : ℕ) → (h : IsCounted cs log) → n + 2 < length cs → (cell cs (n + 2)).1 ≡ false
    → (length log ≡ n) × (h.rights ≡ 1)
right_counts cs log n h inside away =
    elim (cases_lt n (length log)) [
      | inl more ↦ absurd (cc (h.home (n + 2) (omega (arith, more)), away))
      | inr enough ↦ (omega (arith, enough, inside, h.words, h.one), omega (arith, enough, inside, h.words, h.one))
    ]

-- a publication uses the right to it up
counted_more : (cs : List Cell) (log : List Publication) (e : Publication) (n : ℕ) → (h : IsCounted cs log) → n + 2 < length cs
    → length log ≡ n → h.rights ≡ 1
    → IsCounted (slice_set (slice_set cs 0 (2 * n + 1 + 1, true)) (n + 2) (0, true)) (log ++ e ∷ [])
counted_more cs log e n h inside len one =
    let first : 0 < length cs = omega (arith, inside) in
    let cells = slice_set cs 0 (2 * n + 1 + 1, true) in
    let size : length cells ≡ length cs = length-set cs 0 (2 * n + 1 + 1, true) in
    let longer : length (log ++ e ∷ []) ≡ length log + 1 = length-append log (e ∷ []) in
    let apart : 0 ≡ n + 2 → ⊥ = λ same. omega (arith, same) in
    record {
      rights = 0;
      one = omega arith;
      head = get_or-set_other cells (n + 2) 0 (0, true) (0, false) apart ∙ get_or-set_same cs 0 (2 * n + 1 + 1, true) (0, false) first
          ∙ ap (λ (m : ℕ). (m, true)) (omega (arith, longer, len));
      words = omega (arith, length-set cells (n + 2) (0, true), size, h.words, longer, one);
      home = home_set cells (n + 2) 0 (length (log ++ e ∷ []) + 2) (omega (arith, size, inside))
          (λ k below other. home_set cs 0 (2 * n + 1 + 1) (length log + 2) first (λ j low apart. h.home j low) k (omega (arith, below, other, longer, len)));
    }

-- whatever the book is, the right to the publication that follows what was seen is made, or nothing changes
pub opens_moves : (v : List Publication) (e : Publication) (n : ℕ) → length v ≡ n
    → Moves IsCounted shown moved 0 (v, (no_nib, None)) (λ m. either (m == 2 * n) (2 * n + 1) m) (Opens (step 0 (2 * n) (2 * n + 1) e) (v, (no_nib, None)))
opens_moves v e n len cs log h pre away =
    (omega (arith, h.words), ap (λ (c : Cell). c.1) h.head, goes ((cell cs 0).0 == 2 * n) refl)
  where
    all : log ++ [] ≡ log
    all = append-nil log

    goes : (b : Bool) → ((cell cs 0).0 == 2 * n) ≡ b
        → Goes IsCounted shown moved 0 (v, (no_nib, None)) (λ m. either (m == 2 * n) (2 * n + 1) m) (Opens (step 0 (2 * n) (2 * n + 1) e) (v, (no_nib, None))) cs log
    goes true is =
        let found : (cell cs 0).0 ≡ 2 * n = eqb-true _ _ is in
        let at : 2 * n ≡ 2 * length log + h.rights = sym found ∙ ap (λ (c : Cell). c.0) h.head in (
          adds,
          [],
          None,
          tt,
          rw (is, all) (counted_open cs log n h found),
          inl (refl, refl),
          rw is (ap (λ (k : ℕ). nib may_make k 0) (omega (arith, h.words, at, h.one, len))),
        )
    goes false is = (
      keeps,
      [],
      None,
      tt,
      rw (is, all) (counted_set cs log (cell cs 0).0 h refl),
      inl (refl, refl),
      rw is tt,
    )

-- who holds the right puts a publication after all that there are, and has seen them
pub publishes_moves : (v : List Publication) (e : Publication) (n : ℕ) → length v ≡ n
    → Moves IsCounted shown moved 0 (v, (nib may_write (n + 2) 0, None)) (λ m. either (m == 2 * n + 1) (2 * n + 1 + 1) m)
    (Publishes (step 0 (2 * n + 1) (2 * n + 1 + 1) e) (v, (nib may_write (n + 2) 0, None)))
publishes_moves v e n len cs log h pre away =
    let a = away refl in
    let counts = right_counts cs log n h a.0 a.1 in
    let found : (cell cs 0).0 ≡ 2 * n + 1 = ap (λ (c : Cell). c.0) h.head ∙ omega (arith, counts.0, counts.1) in
    let is : ((cell cs 0).0 == 2 * n + 1) ≡ true = eq-eqb _ _ found in
    let seen : v ≡ log = prefix_whole v log pre (omega (arith, counts.0, len)) in (
      omega (arith, h.words),
      ap (λ (c : Cell). c.1) h.head,
      (
        gives,
        e ∷ [],
        None,
        refl,
        rw is (counted_more cs log e n h a.0 counts.0 counts.1),
        inl (refl, refl),
        ap (λ (l : List Publication). l ++ e ∷ []) (sym seen),
      ),
    )
