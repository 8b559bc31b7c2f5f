-- The rows that are put into an envelope again, one after another.
use Rattle.std.proofs.Common.{◌≡◌, ℕ, ◌+◌, ◌-◌, ◌<◌, ◌≤◌, Bool, Option, Some, None, List, [], ◌∷◌, ◌++◌, length, get_or, take, inl, inr, sym, ap, ◌∙◌, subst, arith}
use Rattle.std.specs.Prelude.{All, Contains, ◌⊎◌, IfSome}
use Rattle.std.specs.List.{HoldsAt}
use Rattle.std.proofs.lemmas.Bool.{cases_lt, cases_eq}
use Rattle.std.proofs.lemmas.List.{get_or_default, get_or-take, length-take-le, take_all, take_more}
use Rattle.std.proofs.lemmas.List.Elements.{All-take, All-append, All-contains, All-contains_itself, Contains-get_or, Contains-append_left, Contains-append_right, Contains-append_cases, Contains-push, Contains-push_cases}
use Rattle.rate_cert.specs.declared.request.Request.{Request}
use Rattle.rate_cert.proofs.CheckerLemmas.{holds_at}
use Rattle.bounding_set.specs.Canonical.{HasSameLine, StopsMedia}
use Rattle.bounding_set.specs.Envelope.{Covers, KeepsLeastOwner, IsEnvelopeOf}
use Rattle.bounding_set.specs.Gap.{IsEnvelopeButAt}
use Rattle.bounding_set.specs.Rows.{HasRisingOwners}
use Rattle.bounding_set.specs.Spliced.{IsSplicedEnvelope}
use Rattle.bounding_set.proofs.WalkLemmas.{Covers-through}
use Rattle.bounding_set.proofs.CertificateLemmas.{no_more_than_rows}
use Rattle.bounding_set.proofs.SplicedLemmas.{IsLeastOf, Contains-cons_cases, Contains-head, Contains-tail, IsEnvelopeOf-members, IsEnvelopeOf-covered, IsEnvelopeOf-spliced}

-- the overhead of the line before a place, and of the line at it
pub record IsLeftOf (lines : List Request) (place : ℕ) (left : Option ℕ) : Type 0 where
  pub some : (d : Request) → 0 < place → left ≡ Some (get_or lines (place - 1) d).tuple.overhead
  pub none : place ≡ 0 → left ≡ None

pub record IsRightOf (lines : List Request) (place : ℕ) (right : Option ℕ) : Type 0 where
  pub some : (d : Request) → place < length lines → right ≡ Some (get_or lines place d).tuple.overhead
  pub none : length lines ≤ place → right ≡ None

-- what the test before a splice says
abbrev pub MayReturn : Request → Option ℕ → Option ℕ → Type 0
MayReturn x left right = (¬ StopsMedia x) × IfSome left (λ l. l < x.tuple.overhead) × IfSome right (λ r. x.tuple.overhead < r)

-- the lines that stay, with the rows up to a place
abbrev pub considered : List Request → List Request → ℕ → List Request
considered rows lines place = take place rows ++ lines

-- an element moves to the front
to_front : {X : Type 0} (xs ys : List X) (x r : X) → Contains ((xs ++ x ∷ []) ++ ys) r → Contains (x ∷ (xs ++ ys)) r
to_front xs ys x r is =
    elim (Contains-append_cases (xs ++ x ∷ []) ys r is) [
      | inr last ↦ Contains-tail x (xs ++ ys) r (Contains-append_right xs ys r last)
      | inl first ↦
          elim (Contains-push_cases xs x r first) [
            | inl before ↦ Contains-tail x (xs ++ ys) r (Contains-append_left xs ys r before)
            | inr here ↦ subst (Contains (x ∷ (xs ++ ys))) here (Contains-head x (xs ++ ys))
          ]
    ]

from_front : {X : Type 0} (xs ys : List X) (x r : X) → Contains (x ∷ (xs ++ ys)) r → Contains ((xs ++ x ∷ []) ++ ys) r
from_front xs ys x r is =
    elim (Contains-cons_cases x (xs ++ ys) r is) [
      | inl here ↦ subst (Contains ((xs ++ x ∷ []) ++ ys)) here (Contains-append_left (xs ++ x ∷ []) ys x (Contains-push xs x))
      | inr behind ↦
          elim (Contains-append_cases xs ys r behind) [
            | inl before ↦ Contains-append_left (xs ++ x ∷ []) ys r (Contains-append_left xs (x ∷ []) r before)
            | inr last ↦ Contains-append_right (xs ++ x ∷ []) ys r last
          ]
    ]

module _ (rows start : List Request) (place : ℕ) (gap : IsEnvelopeButAt rows start place) where
  -- at first the lines that stay are their own envelope
  pub put_back_none : IsEnvelopeOf (considered rows start 0) start
  put_back_none = record {
    hull = gap.hull;
    covers = λ k d below sends p feasible. feasible k d below;
    are_rows = All-contains_itself start;
    send = gap.send;
    least_owner = λ k d below. λ j e at. All-contains (λ y. HasSameLine (get_or start k d) y → (get_or start k d).owner.0 ≤ y.owner.0) rows
        (get_or start j e) (gap.least_owner k d below) (gap.are_rows j e at);
  }

  considered_are_rows : (count : ℕ) → All (Contains rows) (considered rows start count)
  considered_are_rows count = All-append (Contains rows) (take count rows) start
      (All-take (Contains rows) count rows (All-contains_itself rows)) gap.are_rows

  module _ (lines : List Request) (count : ℕ) (envelope : IsEnvelopeOf (considered rows start count) lines) where
    -- there is room for one more line
    pub no_more_lines : length lines ≤ length rows
    no_more_lines =
        no_more_than_rows rows lines
        (λ k d below. All-contains (Contains rows) (considered rows start count) (get_or lines k d) (considered_are_rows count) (envelope.are_rows k d below))
        (λ i j d before below.
        let crosses = envelope.hull.crosses i j d before below in
        record { overhead = crosses.overhead; rate = crosses.rate; reach = omega (arith, crosses.reach) })

    -- when all rows were considered, it is the envelope of the rows
    pub put_back_all : length rows ≤ count → IsEnvelopeOf rows lines
    put_back_all all =
        IsEnvelopeOf-members (considered rows start count) rows lines
        (λ r is. All-contains (Contains rows) (considered rows start count) r (considered_are_rows count) is)
        (λ r is. Contains-append_left (take count rows) start r (subst (λ rs. Contains rs r) (sym (take_all count rows all)) is))
        envelope

    module _ (x : Request) (below : count < length rows) (is : x ≡ get_or rows count x) where
      -- it is considered
      one_more : (new : List Request) → IsEnvelopeOf (x ∷ considered rows start count) new → IsEnvelopeOf (considered rows start (count + 1)) new
      one_more new with_x =
          let taken : take (count + 1) rows ≡ take count rows ++ x ∷ [] =
          take_more rows count x below ∙ ap (λ r. take count rows ++ r ∷ []) (sym is) in
          subst (λ rs. IsEnvelopeOf (rs ++ start) new) (sym taken)
          (IsEnvelopeOf-members (x ∷ (take count rows ++ start)) ((take count rows ++ x ∷ []) ++ start) new
          (from_front (take count rows) start x) (to_front (take count rows) start x) with_x)

      at_place : (d : Request) → get_or rows count d ≡ x
      at_place d = sym (is ∙ get_or_default rows count x d below)

      is_row : Contains rows x
      is_row = (count, below, at_place x)

      covers_start : All (Covers lines) start
      covers_start = λ k d at. All-contains (λ r. ¬ StopsMedia r → Covers lines r) (considered rows start count) (get_or start k d) envelope.covers
          (Contains-append_right (take count rows) start (get_or start k d) (Contains-get_or start k d at)) (gap.send k d at)

      -- a line that is considered has no greater owner
      least : HasRisingOwners rows → KeepsLeastOwner lines x
      least rising = λ k d at same.
          let l = get_or lines k d in
          elim (Contains-append_cases (take count rows) start l (envelope.are_rows k d at)) [
            | inr stays ↦
                All-contains (λ y. HasSameLine l y → l.owner.0 ≤ y.owner.0) rows x
                (All-contains (IsLeastOf rows) start l gap.least_owner stays) is_row same
            | inl passed ↦
                let before : passed.0 < count = omega (arith, passed.1, length-take-le count rows (omega arith)) in
                let there : get_or rows passed.0 l ≡ l = sym (get_or-take count rows passed.0 l before) ∙ passed.2 in
                let owner : (get_or rows passed.0 l).owner.0 ≡ l.owner.0 = ap (λ (r : Request). r.owner.0) there in
                let of_x : (get_or rows count l).owner.0 ≡ x.owner.0 = ap (λ (r : Request). r.owner.0) (at_place l) in
                omega (arith, owner, of_x, rising passed.0 count l before below)
          ]

      covered : HasRisingOwners rows → (¬ StopsMedia x → Covers start x) → IsEnvelopeOf (considered rows start (count + 1)) lines
      covered rising covers =
          one_more lines (IsEnvelopeOf-covered x (considered rows start count) lines envelope
          (λ sends. Covers-through start lines x covers_start (covers sends)) (least rising))

      covered_left : 0 < place → (¬ StopsMedia x) → HoldsAt (λ l. x.tuple.overhead ≤ l.tuple.overhead) start (place - 1) → Covers start x
      covered_left some =
          subst (λ r. ¬ StopsMedia r → HoldsAt (λ (l : Request). r.tuple.overhead ≤ l.tuple.overhead) start (place - 1) → Covers start r) (at_place x)
          (gap.left some count x below)

      covered_right : place < length start → (¬ StopsMedia x) → HoldsAt (λ l. l.tuple.overhead ≤ x.tuple.overhead) start place → Covers start x
      covered_right some =
          subst (λ r. ¬ StopsMedia r → HoldsAt (λ (l : Request). l.tuple.overhead ≤ r.tuple.overhead) start place → Covers start r) (at_place x)
          (gap.right some count x below)

      -- on the left it has more overhead, or the lines that stay cover it
      more_than_left : (left : Option ℕ) → IsLeftOf start place left → (¬ StopsMedia x)
          → IfSome left (λ l. l < x.tuple.overhead) ⊎ Covers start x
      more_than_left left is_left sends =
          elim (cases_eq place 0) [
            | inl none ↦ inl (subst (λ o. IfSome o (λ l. l < x.tuple.overhead)) (sym (is_left.none none)) tt)
            | inr some ↦
                elim (cases_lt (get_or start (place - 1) x).tuple.overhead x.tuple.overhead) [
                  | inl less ↦ inl (subst (λ o. IfSome o (λ l. l < x.tuple.overhead)) (sym (is_left.some x (omega arith))) less)
                  | inr no_less ↦
                      inr (covered_left (omega arith) sends
                      (holds_at (λ (l : Request). x.tuple.overhead ≤ l.tuple.overhead) start (place - 1) x (omega (arith, gap.in_range)) no_less))
                ]
          ]

      less_than_right : (right : Option ℕ) → IsRightOf start place right → (¬ StopsMedia x)
          → IfSome right (λ r. x.tuple.overhead < r) ⊎ Covers start x
      less_than_right right is_right sends =
          elim (cases_lt place (length start)) [
            | inr none ↦ inl (subst (λ o. IfSome o (λ r. x.tuple.overhead < r)) (sym (is_right.none none)) tt)
            | inl some ↦
                elim (cases_lt x.tuple.overhead (get_or start place x).tuple.overhead) [
                  | inl less ↦ inl (subst (λ o. IfSome o (λ r. x.tuple.overhead < r)) (sym (is_right.some x some)) less)
                  | inr no_less ↦
                      inr (covered_right some sends
                      (holds_at (λ (l : Request). l.tuple.overhead ≤ x.tuple.overhead) start place x some no_less))
                ]
          ]

      -- one that stops the media, or doesn't lie between the two
      pub put_back_skipped : HasRisingOwners rows → (left right : Option ℕ) → IsLeftOf start place left → IsRightOf start place right
          → (¬ MayReturn x left right) → IsEnvelopeOf (considered rows start (count + 1)) lines
      put_back_skipped rising left right is_left is_right stays_out =
          covered rising (λ sends. elim (more_than_left left is_left sends) [
            | inr covers ↦ covers
            | inl more ↦
                elim (less_than_right right is_right sends) [
                  | inr covers ↦ covers
                  | inl less ↦ absurd (stays_out (sends, more, less))
                ]
          ])

      -- one that was spliced
      pub put_back_spliced : (new : List Request) (put : Bool) (tests : ℕ) → (¬ StopsMedia x) → IsSplicedEnvelope lines x put new tests
          → IsEnvelopeOf (considered rows start (count + 1)) new
      put_back_spliced new put tests sends spliced =
          one_more new (IsEnvelopeOf-spliced (considered rows start count) lines new x put tests envelope sends spliced)
