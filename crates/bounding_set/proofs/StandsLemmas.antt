-- A line in place of those that it makes needless: what remains is a hull.
use Rattle.std.proofs.Common.{◌≡◌, ◌≢◌, ℕ, suc, ◌+◌, ◌-◌, ◌<◌, ◌≤◌, List, ◌∷◌, ◌++◌, length, get_or, take, drop, inl, inr, refl, sym, ◌∙◌, ap, subst, arith}
use Rattle.std.specs.Prelude.{All}
use Rattle.std.specs.List.{AllWithin}
use Rattle.std.proofs.lemmas.Bool.{cases_lt, cases_eq}
use Rattle.std.proofs.lemmas.List.{length-append, length-take-le, length-drop, get_or-take, get_or-drop, get_or_append_left, get_or-append_right}
use Rattle.tmmbr_tuple.specs.Tuple.{rate_of}
use Rattle.tmmbr_tuple.specs.RatePair.{RatePair, Permits}
use Rattle.rate_cert.specs.declared.request.Request.{Request}
use Rattle.rate_cert.specs.Requests.{IsFeasible}
use Rattle.bounding_set.specs.Canonical.{HasSameLine}
use Rattle.bounding_set.specs.Envelope.{Crosses, Turns, IsHull, Covers}
use Rattle.bounding_set.specs.Place.{IsPlaceOf, IsNeededAt, StandsFor}
use Rattle.bounding_set.proofs.TurnLemmas.{permitted_by_stricter}

-- x in place of the elements from `low` to `high`
abbrev pub replaced : {X : Type 0} → List X → X → ℕ → ℕ → List X
replaced xs x low high = take low xs ++ x ∷ drop high xs

-- the element at a place of the new list, if it isn't x, stood at this place
record CameFrom {X : Type 0} (xs ys : List X) (low high k : ℕ) : Type 0 where
  place : ℕ
  in_range : place < length xs
  is : (d : X) → get_or ys k d ≡ get_or xs place d
  before : k < low → place ≡ k
  behind : low < k → place + low + 1 ≡ k + high

module _ {X : Type 0} (xs : List X) (x : X) (low high : ℕ) (rising : low ≤ high) (within : high ≤ length xs) where
  pub length-replaced : length (replaced xs x low high) + (high - low) ≡ length xs + 1
  length-replaced =
      let parts : length (replaced xs x low high) ≡ length (take low xs) + length (x ∷ drop high xs) = length-append (take low xs) (x ∷ drop high xs) in
      let first : length (take low xs) ≡ low = length-take-le low xs (omega arith) in
      let last : length (drop high xs) ≡ length xs - high = length-drop high xs in
      let one : length (x ∷ drop high xs) ≡ length (drop high xs) + 1 = omega arith in
      omega arith

  pub at_x : (d : X) → get_or (replaced xs x low high) low d ≡ x
  at_x d =
      get_or-append_right (take low xs) (x ∷ drop high xs) low low d (length-take-le low xs (omega arith)) (omega arith)
      ∙ ap (λ n. get_or (x ∷ drop high xs) n d) {y = 0} (omega arith)

  at_before : (k : ℕ) (d : X) → k < low → get_or (replaced xs x low high) k d ≡ get_or xs k d
  at_before k d below =
      get_or_append_left (take low xs) (x ∷ drop high xs) d k (omega (arith, length-take-le low xs (omega arith))) ∙ get_or-take low xs k d below

  at_behind : (k m : ℕ) (d : X) → m + low + 1 ≡ k + high → high ≤ m → get_or (replaced xs x low high) k d ≡ get_or xs m d
  at_behind k m d is above =
      let step : k - low ≡ suc (m - high) = omega arith in
      let back : high + (m - high) ≡ m = omega arith in
      get_or-append_right (take low xs) (x ∷ drop high xs) low k d (length-take-le low xs (omega arith)) (omega arith)
      ∙ ap (λ n. get_or (x ∷ drop high xs) n d) step
      ∙ get_or-drop high xs (m - high) d
      ∙ ap (λ n. get_or xs n d) back

  -- they stay in their order
  came_in_order : (i j : ℕ) (a : CameFrom xs (replaced xs x low high) low high i) (b : CameFrom xs (replaced xs x low high) low high j)
      → i < j → i ≢ low → j ≢ low → a.place < b.place
  came_in_order i j a b before i_other j_other =
      elim (cases_lt j low) [
        | inl both_first ↦ omega (arith, a.before (omega arith), b.before both_first)
        | inr j_last ↦ elim (cases_lt i low) [
          | inl i_first ↦ omega (arith, a.before i_first, b.behind (omega (arith, j_other)))
          | inr i_last ↦ omega (arith, a.behind (omega (arith, i_other)), b.behind (omega (arith, j_other)))
        ]
      ]

  came_from : (k : ℕ) → k < length (replaced xs x low high) → k ≢ low → CameFrom xs (replaced xs x low high) low high k
  came_from k below other =
      elim (cases_lt k low) [
        | inl first ↦ record {
          place = k;
          in_range = omega arith;
          is = λ d. at_before k d first;
          before = λ less. refl;
          behind = λ more. absurd (omega arith);
        }
        | inr last ↦
            let is : (k - low - 1) + high + low + 1 ≡ k + high = omega (arith, other) in
            record {
              place = (k - low - 1) + high;
              in_range = omega (arith, other, length-replaced);
              is = λ d. at_behind k ((k - low - 1) + high) d is (omega arith);
              before = λ less. absurd (omega arith);
              behind = λ more. is;
            }
      ]

  -- what holds of x and of the others that stay holds of all
  pub All-replaced : (P : X → Type 0) → AllWithin P xs 0 low → P x → AllWithin P xs high (length xs) → All P (replaced xs x low high)
  All-replaced P first here last = λ k d below.
      elim (cases_eq k low) [
        | inl at ↦ rw (at, at_x d) here
        | inr other ↦
            let from = came_from k below other in
            subst P (sym (from.is d)) (elim (cases_lt k low) [
              | inl less ↦ first from.place d (omega arith) (omega (arith, from.before less))
              | inr no_less ↦ last from.place d (omega (arith, other, no_less, from.behind (omega (arith, other, no_less)))) from.in_range
            ])
      ]

  pub first_from_all : (P : X → Type 0) → All P (replaced xs x low high) → AllWithin P xs 0 low
  first_from_all P all = λ k d low_k below. subst P (at_before k d below) (all k d (omega (arith, length-replaced)))

  pub x_from_all : (P : X → Type 0) → All P (replaced xs x low high) → P x
  x_from_all P all = subst P (at_x x) (all low x (omega (arith, length-replaced)))

  pub last_from_all : (P : X → Type 0) → All P (replaced xs x low high) → AllWithin P xs high (length xs)
  last_from_all P all = λ k d low_k below.
      let is : k + low + 1 ≡ ((k - high) + low + 1) + high = omega arith in
      subst P (at_behind ((k - high) + low + 1) k d is low_k) (all ((k - high) + low + 1) d (omega (arith, length-replaced)))

module _ (lines : List Request) (x : Request) (hull : IsHull lines) (low high : ℕ) (stands : StandsFor lines x low high) where
  abbrev new : List Request
  new = replaced lines x low high

  from_of : (k : ℕ) → k < length new → k ≢ low → CameFrom lines new low high k
  from_of = came_from lines x low high stands.rising stands.in_range

  x_is : (d : Request) → get_or new low d ≡ x
  x_is = at_x lines x low high stands.rising stands.in_range

  first_place : (i : ℕ) (a : CameFrom lines new low high i) → i < low → a.place < low
  first_place i a less = omega (arith, a.before less)

  last_place : (i : ℕ) (a : CameFrom lines new low high i) → low < i → high ≤ a.place
  last_place i a more = omega (arith, a.behind more)

  crosses_replaced : (i j : ℕ) (d : Request) → i < j → j < length new → Crosses (get_or new i d) (get_or new j d)
  crosses_replaced i j d before below =
      elim (cases_eq j low) [
        | inl j_is ↦
            let a = from_of i (omega arith) (omega arith) in
            rw (j_is, x_is d, a.is d) (stands.before a.place d (omega arith) (first_place i a (omega arith)))
        | inr j_other ↦
            let b = from_of j below j_other in
            elim (cases_eq i low) [
              | inl i_is ↦ rw (i_is, x_is d, b.is d) (stands.behind b.place d (last_place j b (omega arith)) b.in_range)
              | inr i_other ↦
                  let a = from_of i (omega arith) i_other in
                  rw (a.is d, b.is d)
                  (hull.crosses a.place b.place d
                  (came_in_order lines x low high stands.rising stands.in_range i j a b before i_other j_other) b.in_range)
            ]
      ]

  turns_replaced : (i j k : ℕ) (d : Request) → i < j → j < k → k < length new → Turns (get_or new i d) (get_or new j d) (get_or new k d)
  turns_replaced i j k d before then_k below =
      elim (cases_eq j low) [
        | inl j_is ↦
            let a = from_of i (omega arith) (omega arith) in
            let c = from_of k below (omega arith) in
            rw (j_is, x_is d, a.is d, c.is d)
            (stands.turns a.place c.place d (first_place i a (omega arith)) (last_place k c (omega arith)) c.in_range)
        | inr j_other ↦
            let b = from_of j (omega arith) j_other in
            elim (cases_eq i low) [
              | inl i_is ↦
                  let c = from_of k below (omega arith) in
                  rw (i_is, x_is d, b.is d, c.is d)
                  (stands.turns_behind b.place c.place d (last_place j b (omega arith))
                  (came_in_order lines x low high stands.rising stands.in_range j k b c then_k j_other (omega arith)) c.in_range)
              | inr i_other ↦
                  let a = from_of i (omega arith) i_other in
                  let ordered = came_in_order lines x low high stands.rising stands.in_range i j a b before i_other j_other in
                  elim (cases_eq k low) [
                    | inl k_is ↦ rw (k_is, x_is d, a.is d, b.is d) (stands.turns_before a.place b.place d ordered (first_place j b (omega arith)))
                    | inr k_other ↦
                        let c = from_of k below k_other in
                        rw (a.is d, b.is d, c.is d)
                        (hull.turns a.place b.place c.place d ordered
                        (came_in_order lines x low high stands.rising stands.in_range j k b c then_k j_other k_other) c.in_range)
                  ]
            ]
      ]

  pub IsHull-replaced : IsHull (replaced lines x low high)
  IsHull-replaced = record { crosses = crosses_replaced; turns = turns_replaced }

  pub Covers-x : Covers (replaced lines x low high) x
  Covers-x = λ p feasible. x_from_all lines x low high stands.rising stands.in_range (λ l. Permits l.tuple p) feasible

  pub Covers-replaced : All (Covers (replaced lines x low high)) lines
  Covers-replaced = λ k d below p feasible.
      stands.covers p
      (first_from_all lines x low high stands.rising stands.in_range (λ l. Permits l.tuple p) feasible)
      (x_from_all lines x low high stands.rising stands.in_range (λ l. Permits l.tuple p) feasible)
      (last_from_all lines x low high stands.rising stands.in_range (λ l. Permits l.tuple p) feasible)
      k d below

  -- the others have other overheads than x
  pub least-replaced : All (λ l. HasSameLine l x → l.owner.0 ≤ x.owner.0) (replaced lines x low high)
  least-replaced =
      All-replaced lines x low high stands.rising stands.in_range (λ l. HasSameLine l x → l.owner.0 ≤ x.owner.0)
      (λ k d low_k below same. absurd (omega (arith, same.overhead, (stands.before k d low_k below).overhead)))
      (λ same. omega arith)
      (λ k d low_k below same. absurd (omega (arith, same.overhead, (stands.behind k d low_k below).overhead)))

-- parts of a hull are hulls
pub IsHull-take : (lines : List Request) (n : ℕ) → n ≤ length lines → IsHull lines → IsHull (take n lines)
IsHull-take lines n within hull = record {
  crosses = λ i j d before below.
      let j_below : j < n = omega (arith, length-take-le n lines within) in
      let i_below : i < n = omega arith in
      rw (get_or-take n lines i d i_below, get_or-take n lines j d j_below) (hull.crosses i j d before (omega arith));
  turns = λ i j k d before then_k below.
      let k_below : k < n = omega (arith, length-take-le n lines within) in
      let j_below : j < n = omega arith in
      let i_below : i < n = omega arith in
      rw (get_or-take n lines i d i_below, get_or-take n lines j d j_below, get_or-take n lines k d k_below) (hull.turns i j k d before then_k (omega arith));
}

pub IsHull-drop : (lines : List Request) (n : ℕ) → IsHull lines → IsHull (drop n lines)
IsHull-drop lines n hull = record {
  crosses = λ i j d before below.
      rw (get_or-drop n lines i d, get_or-drop n lines j d) (hull.crosses (n + i) (n + j) d (omega arith) (omega (arith, length-drop n lines)));
  turns = λ i j k d before then_k below.
      rw (get_or-drop n lines i d, get_or-drop n lines j d, get_or-drop n lines k d)
      (hull.turns (n + i) (n + j) (n + k) d (omega arith) (omega arith) (omega (arith, length-drop n lines)));
}

pub All-take : {X : Type 0} (P : X → Type 0) (xs : List X) (n : ℕ) → n ≤ length xs → AllWithin P xs 0 n → All P (take n xs)
All-take P xs n within first k d below =
    let k_below : k < n = omega (arith, length-take-le n xs within) in
    rw (get_or-take n xs k d k_below) (first k d (omega arith) k_below)

pub All-drop : {X : Type 0} (P : X → Type 0) (xs : List X) (n : ℕ) → AllWithin P xs n (length xs) → All P (drop n xs)
All-drop P xs n last k d below = rw (get_or-drop n xs k d) (last (n + k) d (omega arith) (omega (arith, length-drop n xs)))

-- what holds of places of a part holds there in the whole
within_take : {X : Type 0} (P : X → Type 0) (xs : List X) (n m : ℕ) → m ≤ n → AllWithin P xs 0 m → AllWithin P (take n xs) 0 m
within_take P xs n m le first k d low below =
    let k_below : k < n = omega arith in
    rw (get_or-take n xs k d k_below) (first k d low below)

from_take : {X : Type 0} (P : X → Type 0) (xs : List X) (n m : ℕ) → m ≤ n → AllWithin P (take n xs) 0 m → AllWithin P xs 0 m
from_take P xs n m le first k d low below =
    let k_below : k < n = omega arith in
    subst P (get_or-take n xs k d k_below) (first k d low below)

from_drop : {X : Type 0} (P : X → Type 0) (xs : List X) (n k : ℕ) (d : X) → n ≤ k → P (get_or (drop n xs) (k - n) d) → P (get_or xs k d)
from_drop P xs n k d above holds =
    let back : n + (k - n) ≡ k = omega arith in
    subst P (get_or-drop n xs (k - n) d ∙ ap (λ i. get_or xs i d) back) holds

module _ (lines : List Request) (x : Request) (at from low more : ℕ) (place : IsPlaceOf lines x at from) (needed : IsNeededAt lines x at from)
    (low_in : low ≤ at)
    (covers_before : (p : RatePair) → AllWithin (λ l. Permits l.tuple p) (take at lines) 0 low → Permits x.tuple p → IsFeasible (take at lines) p)
    (rates : AllWithin (λ l. rate_of l.tuple < rate_of x.tuple) (take at lines) 0 low)
    (turns_before : (i j : ℕ) (d : Request) → i < j → j < low → Turns (get_or (take at lines) i d) (get_or (take at lines) j d) x)
    (more_in : more ≤ length (drop from lines))
    (covers_behind : (p : RatePair) → AllWithin (λ l. Permits l.tuple p) (drop from lines) more (length (drop from lines)) → Permits x.tuple p → IsFeasible (drop from lines) p)
    (crosses : AllWithin (Crosses x) (drop from lines) more (length (drop from lines)))
    (turns_behind : (i j : ℕ) (d : Request) → more ≤ i → i < j → j < length (drop from lines) → Turns x (get_or (drop from lines) i d) (get_or (drop from lines) j d)) where
  high_in : from + more ≤ length lines
  high_in = omega (arith, more_in, length-drop from lines, place.in_range)

  covers_all : (p : RatePair) → AllWithin (λ l. Permits l.tuple p) lines 0 low → Permits x.tuple p
      → AllWithin (λ l. Permits l.tuple p) lines (from + more) (length lines) → IsFeasible lines p
  covers_all p first by_x last k d below =
      elim (cases_lt k at) [
        | inl before ↦
            let at_in : at ≤ length lines = omega (arith, place.rising, place.in_range) in
            from_take (λ l. Permits l.tuple p) lines at at (omega arith)
            (λ j e low_j j_below. covers_before p (within_take (λ l. Permits l.tuple p) lines at low low_in first) by_x j e (omega (arith, length-take-le at lines at_in)))
            k d (omega arith) before
        | inr no_less ↦ elim (cases_lt k from) [
          | inl same ↦
              let s = get_or lines k d in
              let order = needed.first k d no_less same in
              let is = place.same k d no_less same in
              permitted_by_stricter p.bits p.packets p.seconds s.tuple.overhead x.tuple.overhead (rate_of s.tuple) (rate_of x.tuple)
              (omega arith) (order.rate (sym is)) by_x
          | inr behind ↦
              from_drop (λ l. Permits l.tuple p) lines from k d behind
              (covers_behind p
              (λ j e low_j j_below. subst (λ l. Permits l.tuple p) (sym (get_or-drop from lines j e)) (last (from + j) e (omega arith) (omega (arith, length-drop from lines))))
              by_x (k - from) d (omega (arith, length-drop from lines)))
        ]
      ]

  pub StandsFor-from_parts : StandsFor lines x low (from + more)
  StandsFor-from_parts = record {
    rising = omega (arith, place.rising);
    in_range = high_in;
    covers = covers_all;
    before = λ k d low_k below.
        let beyond = needed.beyond k d low_k (omega arith) in
        record {
          overhead = beyond.overhead;
          rate = from_take (λ l. rate_of l.tuple < rate_of x.tuple) lines at low low_in rates k d low_k below;
          reach = beyond.reach;
        };
    behind = λ k d low_k below. from_drop (Crosses x) lines from k d (omega arith) (crosses (k - from) d (omega arith) (omega (arith, length-drop from lines)));
    turns_before = λ i j d before below.
        let j_below : j < at = omega arith in
        let i_below : i < at = omega arith in
        rw (get_or-take at lines i d i_below, get_or-take at lines j d j_below) at (turns_before i j d before below);
    turns = λ i j d before behind below. needed.turns i j d (omega arith) (omega arith) below;
    turns_behind = λ i j d behind before below.
        from_drop (λ l. Turns x l (get_or lines j d)) lines from i d (omega arith)
        (from_drop (λ r. Turns x (get_or (drop from lines) (i - from) d) r) lines from j d (omega arith)
        (turns_behind (i - from) (j - from) d (omega arith) (omega arith) (omega (arith, length-drop from lines))));
  }
