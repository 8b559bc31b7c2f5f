-- Scans for the best of some rows: what they know after each row, and what they have found in the end.
use Rattle.std.proofs.Common.{Option, Some, None, ◌≡◌, ℕ, ◌+◌, ◌*◌, ◌<◌, ◌≤◌, ◌⊎◌, inl, inr, List, length, get_or, sym, ap, subst, arith}
use Rattle.std.specs.Prelude.{All, Any, Contains, IfSome, MatchOption}
use Rattle.std.specs.List.{AllWithin, HoldsAt}
use Rattle.std.proofs.Math.Nat.{mul-le-mul_left, mul-lt-mul_of_pos_left}
use Rattle.std.proofs.lemmas.Bool.{cases_lt}
use Rattle.std.proofs.lemmas.List.Elements.{AllWithin-more, AllWithin-upto, All-from_all_within}
use Rattle.tmmbr_tuple.specs.Tuple.{rate_of}
use Rattle.rate_cert.specs.declared.request.Request.{Request}
use Rattle.rate_cert.proofs.CheckerLemmas.{holds_at}
use Rattle.rate_cert.proofs.OwnerLemmas.{owner_at}
use Rattle.bounding_set.specs.Rows.{HasRisingOwners}
use Rattle.bounding_set.specs.Reach.{ReachesSooner}
use Rattle.bounding_set.specs.Canonical.{StopsMedia, StopsEverything, ReachesNoFarther, ReachesAsFar, IsStrictestStop, IsFirstStop, IsLeastReach}
use Rattle.bounding_set.proofs.RowLemmas.{row_owner}

-- what is so of a row is so of its place
pub at_row : (P : Request → Type 0) (rows : List Request) (i : ℕ) (x : Request) → i < length rows → x ≡ get_or rows i x → P x → HoldsAt P rows i
at_row P rows i x below is here = holds_at P rows i x below (subst P is here)

-- rows from a row's place on have no lesser owner
pub owners_from : (rows : List Request) → HasRisingOwners rows → (x : Request) (found : Contains rows x) → AllWithin (λ y. x.owner.0 ≤ y.owner.0) rows found.0 (length rows)
owners_from rows rising x found k d low below =
    elim (cases_lt found.0 k) [
      | inl before ↦ omega (arith, rising found.0 k d before below, owner_at row_owner rows x found d)
      | inr after ↦
          let same : found.0 ≡ k = omega arith in
          subst (λ i. x.owner.0 ≤ (get_or rows i d).owner.0) same (omega (arith, owner_at row_owner rows x found d))
    ]

-- Of the first n rows, x is as good as each that is eligible, and better than each of those before it.
pub record IsBestBelow (Eligible : Request → Type 0) (IsBetter IsAsGood : Request → Request → Type 0) (rows : List Request) (n : ℕ) (x : Request) : Type 0 where
  pub found : Contains rows x
  pub before : found.0 < n
  pub eligible : Eligible x
  pub best : AllWithin (λ y. Eligible y → IsAsGood x y) rows 0 n
  pub first : AllWithin (λ y. Eligible y → IsBetter x y) rows 0 found.0

module _ (Eligible : Request → Type 0) (IsBetter IsAsGood : Request → Request → Type 0) (rows : List Request) (i : ℕ) (r : Request) (below : i < length rows) (is : r ≡ get_or rows i r) where
  abbrev IsBest : ℕ → Request → Type 0
  IsBest = IsBestBelow Eligible IsBetter IsAsGood rows

  -- nothing more is eligible
  pub none_more : AllWithin (λ y. ¬ Eligible y) rows 0 i → ¬ Eligible r → AllWithin (λ y. ¬ Eligible y) rows 0 (i + 1)
  none_more none not = AllWithin-more (λ y. ¬ Eligible y) rows 0 i none (at_row (λ y. ¬ Eligible y) rows i r below is not)

  -- the first that is eligible
  pub best_first : AllWithin (λ y. ¬ Eligible y) rows 0 i → Eligible r → IsAsGood r r → IsBest (i + 1) r
  best_first none here itself = record {
    found = (i, below, sym is);
    before = omega arith;
    eligible = here;
    best = AllWithin-more (λ y. Eligible y → IsAsGood r y) rows 0 i (λ k d low lt e. absurd (none k d low lt e))
        (at_row (λ y. Eligible y → IsAsGood r y) rows i r below is (λ _. itself));
    first = λ k d low lt e. absurd (none k d low lt e);
  }

  -- one that is better than the best so far
  pub best_other : (x : Request) → IsBest i x → Eligible r
      → ((y : Request) → Eligible y → IsAsGood x y → IsBetter r y) → ((y : Request) → IsBetter r y → IsAsGood r y) → IsAsGood r r → IsBest (i + 1) r
  best_other x so_far here better as_good itself =
      let all : AllWithin (λ y. Eligible y → IsBetter r y) rows 0 i = λ k d low lt e. better (get_or rows k d) e (so_far.best k d low lt e) in record {
        found = (i, below, sym is);
        before = omega arith;
        eligible = here;
        best = AllWithin-more (λ y. Eligible y → IsAsGood r y) rows 0 i (λ k d low lt e. as_good (get_or rows k d) (all k d low lt e))
            (at_row (λ y. Eligible y → IsAsGood r y) rows i r below is (λ _. itself));
        first = all;
      }

  -- one that isn't
  pub best_stays : (x : Request) → IsBest i x → (Eligible r → IsAsGood x r) → IsBest (i + 1) x
  best_stays x so_far stays = record {
    found = so_far.found;
    before = omega (arith, so_far.before);
    eligible = so_far.eligible;
    best = AllWithin-more (λ y. Eligible y → IsAsGood x y) rows 0 i so_far.best (at_row (λ y. Eligible y → IsAsGood x y) rows i r below is stays);
    first = so_far.first;
  }

module _ (Eligible : Request → Type 0) (IsBetter IsAsGood : Request → Request → Type 0) (rows : List Request) (n : ℕ) (whole : length rows ≤ n) where
  -- the best of all rows
  pub none_of_all : (P : Request → Type 0) → AllWithin P rows 0 n → All P rows
  none_of_all P within = All-from_all_within P rows (AllWithin-upto P rows 0 n (length rows) whole within)

  pub best_of_all : (x : Request) → IsBestBelow Eligible IsBetter IsAsGood rows n x → All (λ y. Eligible y → IsAsGood x y) rows
  best_of_all x is = none_of_all (λ y. Eligible y → IsAsGood x y) is.best

  -- among its likes it has the least owner
  pub least_owner_of_all : HasRisingOwners rows → (x : Request) → IsBestBelow Eligible IsBetter IsAsGood rows n x
      → (IsLike : Request → Type 0) → ((y : Request) → IsBetter x y → IsLike y → ⊥) → All (λ y. Eligible y → IsLike y → x.owner.0 ≤ y.owner.0) rows
  least_owner_of_all rising x is IsLike unlike k d below here like =
      elim (cases_lt k is.found.0) [
        | inl before ↦ absurd (unlike (get_or rows k d) (is.first k d (omega arith) before here) like)
        | inr after ↦ owners_from rows rising x is.found k d after below
      ]

-- by overhead, of those that stop everything
abbrev pub HasMoreOverhead : Request → Request → Type 0
HasMoreOverhead x y = y.tuple.overhead < x.tuple.overhead

abbrev pub HasAsMuchOverhead : Request → Request → Type 0
HasAsMuchOverhead x y = y.tuple.overhead ≤ x.tuple.overhead

abbrev pub IsStrictestSoFar : List Request → ℕ → Option Request → Type 0
IsStrictestSoFar rows n best =
    MatchOption best (AllWithin (λ r. ¬ StopsEverything r) rows 0 n) (IsBestBelow StopsEverything HasMoreOverhead HasAsMuchOverhead rows n)

-- by reach, then by overhead, of those that have overhead
abbrev pub HasOverhead : Request → Type 0
HasOverhead r = 0 < r.tuple.overhead

abbrev pub ReachesNoLater : Request → Request → Type 0
ReachesNoLater x y = ReachesNoFarther x y × (ReachesAsFar x y → x.tuple.overhead ≤ y.tuple.overhead)

abbrev pub IsLeastSoFar : List Request → ℕ → Option Request → Type 0
IsLeastSoFar rows n best =
    MatchOption best (AllWithin (λ r. ¬ HasOverhead r) rows 0 n) (IsBestBelow HasOverhead ReachesSooner ReachesNoLater rows n)

-- the first stop is the one that is met first
pub first_found : (rows : List Request) (i : ℕ) (r : Request) → i < length rows → r ≡ get_or rows i r → HasRisingOwners rows
    → All (λ y. ¬ StopsEverything y) rows → AllWithin (λ y. ¬ StopsMedia y) rows 0 i → StopsMedia r → Contains rows r × IsFirstStop rows r
first_found rows i r below is rising none earlier stops =
    let found : Contains rows r = (i, below, sym is) in (
      found,
      record {
        stops = stops;
        none_stops_everything = none;
        least_owner = λ k d lt media.
            elim (cases_lt k i) [
              | inl before ↦ absurd (earlier k d (omega arith) before media)
              | inr after ↦ owners_from rows rising r found k d after lt
            ];
      },
    )

module _ (rows : List Request) (i : ℕ) (r : Request) (below : i < length rows) (is : r ≡ get_or rows i r) where
  pub strictest_taken : (best : Option Request) → IsStrictestSoFar rows i best → StopsEverything r
      → IfSome best (λ x. HasMoreOverhead r x) → IsStrictestSoFar rows (i + 1) (Some r)
  strictest_taken None none here more =
      best_first StopsEverything HasMoreOverhead HasAsMuchOverhead rows i r below is none here (omega arith)
  strictest_taken (Some x) so_far here more =
      best_other StopsEverything HasMoreOverhead HasAsMuchOverhead rows i r below is x so_far here
      (λ y stops as_much. omega arith) (λ y better. omega arith) (omega arith)

  pub strictest_left : (best : Option Request) → IsStrictestSoFar rows i best
      → (StopsEverything r → ¬ IfSome best (λ x. HasMoreOverhead r x)) → IsStrictestSoFar rows (i + 1) best
  strictest_left None none not = none_more StopsEverything HasMoreOverhead HasAsMuchOverhead rows i r below is none (λ stops. not stops tt)
  strictest_left (Some x) so_far not =
      best_stays StopsEverything HasMoreOverhead HasAsMuchOverhead rows i r below is x so_far
      (λ stops. elim (cases_lt x.tuple.overhead r.tuple.overhead) [ inl more ↦ absurd (not stops more) | inr no_more ↦ omega arith ])

pub strictest_found : (rows : List Request) (n : ℕ) → length rows ≤ n → HasRisingOwners rows → (best : Option Request) → IsStrictestSoFar rows n best
    → MatchOption best (All (λ r. ¬ StopsEverything r) rows) (λ x. Contains rows x × IsStrictestStop rows x)
strictest_found rows n whole rising None none = none_of_all StopsEverything HasMoreOverhead HasAsMuchOverhead rows n whole (λ r. ¬ StopsEverything r) none
strictest_found rows n whole rising (Some x) is = (
  is.found,
  record {
    stops = is.eligible;
    greatest = best_of_all StopsEverything HasMoreOverhead HasAsMuchOverhead rows n whole x is;
    least_owner = least_owner_of_all StopsEverything HasMoreOverhead HasAsMuchOverhead rows n whole rising x is
        (λ y. x.tuple.overhead ≡ y.tuple.overhead) (λ y more same. omega arith);
  },
)

-- who reaches sooner than one that reaches no later than a third does so than the third
sooner_through : (Rr Hr Rx Hx Ry Hy : ℕ) → 0 < Hr → 0 < Hx → 0 < Hy
    → (Rr * Hx < Rx * Hr) ⊎ ((Rr * Hx ≡ Rx * Hr) × (Hr < Hx)) → Rx * Hy ≤ Ry * Hx → (Rx * Hy ≡ Ry * Hx → Hx ≤ Hy)
    → (Rr * Hy < Ry * Hr) ⊎ ((Rr * Hy ≡ Ry * Hr) × (Hr < Hy))
sooner_through Rr Hr Rx Hx Ry Hy some_r some_x some_y sooner no_farther no_more =
    elim (cases_lt (Rr * Hy) (Ry * Hr)) [
      | inl less ↦ inl less
      | inr not_less ↦
          let second : Hr * (Rx * Hy) ≤ Hr * (Ry * Hx) = mul-le-mul_left Hr no_farther in
          let third : Hx * (Ry * Hr) ≤ Hx * (Rr * Hy) = mul-le-mul_left Hx not_less in
          elim sooner [
            | inl less ↦
                let first : Hy * (Rr * Hx) < Hy * (Rx * Hr) = mul-lt-mul_of_pos_left less some_y in
                absurd (omega arith)
            | inr like ↦
                let first : Hy * (Rr * Hx) ≡ Hy * (Rx * Hr) = ap (λ n. Hy * n) like.0 in
                let as_far : Rx * Hy ≡ Ry * Hx =
                elim (cases_lt (Rx * Hy) (Ry * Hx)) [
                  | inl nearer ↦
                      let strict : Hr * (Rx * Hy) < Hr * (Ry * Hx) = mul-lt-mul_of_pos_left nearer some_r in
                      absurd (omega arith)
                  | inr no_nearer ↦ omega arith
                ] in
                let same : Rr * Hy ≡ Ry * Hr =
                elim (cases_lt (Ry * Hr) (Rr * Hy)) [
                  | inl more ↦
                      let strict : Hx * (Ry * Hr) < Hx * (Rr * Hy) = mul-lt-mul_of_pos_left more some_x in
                      absurd (omega arith)
                  | inr no_more ↦ omega arith
                ] in
                inr (same, omega (arith, like.1, no_more as_far))
          ]
    ]

no_later : (x y : Request) → ReachesSooner x y → ReachesNoLater x y
no_later x y sooner =
    elim sooner [
      | inl less ↦ (omega arith, λ far. absurd (omega arith))
      | inr like ↦ (omega (arith, like.0), λ far. omega (arith, like.1))
    ]

no_later_unless_sooner : (x y : Request) → ¬ ReachesSooner y x → ReachesNoLater x y
no_later_unless_sooner x y not_sooner = (
  elim (cases_lt (rate_of y.tuple * x.tuple.overhead) (rate_of x.tuple * y.tuple.overhead)) [
    | inl less ↦ absurd (not_sooner (inl less))
    | inr not_less ↦ omega arith
  ],
  λ far.
      elim (cases_lt y.tuple.overhead x.tuple.overhead) [
        | inl less ↦ absurd (not_sooner (inr (sym far, less)))
        | inr not_less ↦ omega arith
      ],
)

module _ (rows : List Request) (i : ℕ) (r : Request) (below : i < length rows) (is : r ≡ get_or rows i r) where
  pub least_taken : (best : Option Request) → IsLeastSoFar rows i best → HasOverhead r
      → IfSome best (λ x. ReachesSooner r x) → IsLeastSoFar rows (i + 1) (Some r)
  least_taken None none here sooner =
      best_first HasOverhead ReachesSooner ReachesNoLater rows i r below is none here (omega arith, λ far. omega arith)
  least_taken (Some x) so_far here sooner =
      best_other HasOverhead ReachesSooner ReachesNoLater rows i r below is x so_far here
      (λ y some later. sooner_through (rate_of r.tuple) r.tuple.overhead (rate_of x.tuple) x.tuple.overhead (rate_of y.tuple) y.tuple.overhead here so_far.eligible some sooner later.0 later.1)
      (λ y. no_later r y) (omega arith, λ far. omega arith)

  pub least_left : (best : Option Request) → IsLeastSoFar rows i best
      → (HasOverhead r → ¬ IfSome best (λ x. ReachesSooner r x)) → IsLeastSoFar rows (i + 1) best
  least_left None none not = none_more HasOverhead ReachesSooner ReachesNoLater rows i r below is none (λ some. not some tt)
  least_left (Some x) so_far not =
      best_stays HasOverhead ReachesSooner ReachesNoLater rows i r below is x so_far (λ some. no_later_unless_sooner x r (not some))

pub least_found : (rows : List Request) (n : ℕ) → length rows ≤ n → HasRisingOwners rows → Any StopsMedia rows → All (λ y. ¬ StopsEverything y) rows
    → (best : Option Request) → IsLeastSoFar rows n best → MatchOption best (All (λ r. r.tuple.overhead ≡ 0) rows) (λ x. Contains rows x × IsLeastReach rows x)
least_found rows n whole rising media none_stops None none =
    none_of_all HasOverhead ReachesSooner ReachesNoLater rows n whole (λ r. r.tuple.overhead ≡ 0) (λ k d low lt.
    elim (cases_lt 0 (get_or rows k d).tuple.overhead) [ inl some ↦ absurd (none k d low lt some) | inr empty ↦ omega arith ])
least_found rows n whole rising media none_stops (Some x) is =
    let best = best_of_all HasOverhead ReachesSooner ReachesNoLater rows n whole x is in (
      is.found,
      record {
        media_stopped = media;
        none_stops_everything = none_stops;
        has_overhead = is.eligible;
        least = λ k d below some. (best k d below some).0;
        least_overhead = λ k d below some far. (best k d below some).1 far;
        least_owner = λ k d below some far same.
            least_owner_of_all HasOverhead ReachesSooner ReachesNoLater rows n whole rising x is
            (λ y. ReachesAsFar x y × (x.tuple.overhead ≡ y.tuple.overhead))
            (λ y sooner like. elim sooner [ inl less ↦ omega (arith, like.0) | inr tie ↦ omega (arith, tie.1, like.1) ])
            k d below some (far, same);
      },
    )
