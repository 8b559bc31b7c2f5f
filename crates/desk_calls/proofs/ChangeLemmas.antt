-- A call changed the announced set exactly if an owner is lifted or a request is fresh.
use Rattle.std.proofs.Common.{◌≡◌, ◌≢◌, ◌==◌, ℕ, zero, suc, ◌<◌, ◌↔◌, inl, inr, not, Bool, true, false, List, [], ◌∷◌, length, get_or, filter, refl, sym, ap, subst, ◌∙◌, arith}
use Rattle.std.specs.Prelude.{AllPairs, Contains, nat_lt}
use Rattle.std.proofs.lemmas.Bool.{and_parts, and_from, or_parts, or_from, cases_Bool, cases_order, cond-true, cond-false, not-false, not_from_true, true_from_ne_false, both_ways}
use Rattle.std.proofs.lemmas.List.Folds.{Any-from_list_any, list_any-from_Any}
use Rattle.std.proofs.lemmas.List.{get_or_default}
use borrow.Author.Tests.{eq-eqb, eqb-true, ltb-false}
use Rattle.tmmbr_tuple.specs.declared.ssrc.Ssrc.{Ssrc}
use Rattle.tmmbr_tuple.specs.Tuple.{word_of}
use Rattle.rate_cert.specs.declared.request.Request.{Request}
use Rattle.rate_cert.proofs.CheckerLemmas.{Contains-map, entry_at}
use Rattle.desk.specs.declared.effect.Effect.{Effect}
use Rattle.desk.specs.Effect.{IsEffect, IsLifted, is_same, is_member, owners_of, ssrcs_of}
use Rattle.desk_calls.specs.Notification.{is_changed, HasSameMembers}

-- ---- filters that let nothing through

nothing_passes : {X : Type 0} (p : X → Bool) (xs : List X) → filter p xs ≡ [] → (k : ℕ) (d : X) → k < length xs → p (get_or xs k d) ≡ false
nothing_passes {X = X} p [] none k d below = absurd (omega arith)
nothing_passes {X = X} p (x ∷ xs) none k d below =
    elim (cases_Bool (p x)) [
      | inl passes ↦ absurd (some (sym (cond-true (p x) (x ∷ filter p xs) (filter p xs) passes) ∙ none))
      | inr fails ↦ here k below fails (nothing_passes p xs (sym (cond-false (p x) (x ∷ filter p xs) (filter p xs) fails) ∙ none))
    ]
  where
    some : x ∷ filter p xs ≡ [] → ⊥
    some e = cc

    here : (k : ℕ) → k < length (x ∷ xs) → p x ≡ false → ((k : ℕ) (d : X) → k < length xs → p (get_or xs k d) ≡ false) → p (get_or (x ∷ xs) k d) ≡ false
    here zero below fails rest = fails
    here (suc k) below fails rest = rest k d (omega arith)

all_fail : {X : Type 0} (p : X → Bool) (xs : List X) → ((k : ℕ) (d : X) → k < length xs → p (get_or xs k d) ≡ false) → filter p xs ≡ []
all_fail p [] fails = refl
all_fail p (x ∷ xs) fails =
    cond-false (p x) (x ∷ filter p xs) (filter p xs) (fails 0 x (omega arith))
    ∙ all_fail p xs (λ k d below. fails (suc k) d (omega arith))

-- ---- members

same_from : (x y : Request) → x.owner.0 ≡ y.owner.0 → word_of x.tuple ≡ word_of y.tuple → is_same x y ≡ true
same_from x y owners words = and_from _ _ (eq-eqb x.owner.0 y.owner.0 owners) (eq-eqb (word_of x.tuple) (word_of y.tuple) words)

same_parts : (x y : Request) → is_same x y ≡ true → (x.owner.0 ≡ y.owner.0) × (word_of x.tuple ≡ word_of y.tuple)
same_parts x y same =
    let parts = and_parts (x.owner.0 == y.owner.0) (word_of x.tuple == word_of y.tuple) same in
    (eqb-true x.owner.0 y.owner.0 parts.0, eqb-true (word_of x.tuple) (word_of y.tuple) parts.1)

member_at : (xs : List Request) (k : ℕ) (d r : Request) → k < length xs → is_same r (get_or xs k d) ≡ true → is_member xs r ≡ true
member_at xs k d r below same =
    list_any-from_Any (is_same r) xs (k, get_or xs k d, below, get_or_default xs k (get_or xs k d) d below, same)

-- the place of a member
place_of : (xs : List Request) (d r : Request) → is_member xs r ≡ true
    → (k : ℕ) × (k < length xs) × (r.owner.0 ≡ (get_or xs k d).owner.0) × (word_of r.tuple ≡ word_of (get_or xs k d).tuple)
place_of xs d r member =
    let at = Any-from_list_any (is_same r) xs member in
    let is : at.1 ≡ get_or xs at.0 d = sym at.3 ∙ get_or_default xs at.0 at.1 d at.2 in
    let parts = same_parts r at.1 at.4 in
    (at.0, at.2, parts.0 ∙ ap (λ (q : Request). q.owner.0) is, parts.1 ∙ ap (λ (q : Request). word_of q.tuple) is)

-- an owner of the list has a place
owner_at : (xs : List Request) (d : Request) (owner : ℕ) → Contains (owners_of xs) owner → (k : ℕ) × (k < length xs) × ((get_or xs k d).owner.0 ≡ owner)
owner_at xs d owner has = entry_at (λ (r : Request). r.owner.0) xs d owner has

one_place : (xs : List Request) → AllPairs (λ x y. x.owner.0 ≢ y.owner.0) xs → (d : Request) (i k : ℕ) → i < length xs → k < length xs
    → (get_or xs i d).owner.0 ≡ (get_or xs k d).owner.0 → i ≡ k
one_place xs once d i k i_below k_below owners =
    elim (cases_order i k) [
      | inl same ↦ same
      | inr (inl before) ↦ absurd (once i k d before k_below owners)
      | inr (inr behind) ↦ absurd (once k i d behind i_below (sym owners))
    ]

-- ---- if nobody is lifted and nothing is fresh

-- each request of the new set is one of the former
old_at : (former now : List Request) → filter (λ r. not (is_member former r)) now ≡ [] → (k : ℕ) (d : Request) → k < length now
    → is_member former (get_or now k d) ≡ true
old_at former now none k d below =
    not-false (is_member former (get_or now k d)) (nothing_passes (λ r. not (is_member former r)) now none k d below)

now_in_former : (former now : List Request) → filter (λ r. not (is_member former r)) now ≡ [] → (r : Request) → is_member now r ≡ true
    → is_member former r ≡ true
now_in_former former now none r member =
    let at = place_of now r r member in
    let there = place_of former r (get_or now at.0 r) (old_at former now none at.0 r at.1) in
    member_at former there.0 r r there.1 (same_from r (get_or former there.0 r) (at.2 ∙ there.2) (at.3 ∙ there.3))

-- a request whose owner has one in the new set is in it
kept_with_owner : (former now : List Request) → AllPairs (λ x y. x.owner.0 ≢ y.owner.0) former
    → filter (λ r. not (is_member former r)) now ≡ [] → (r : Request) → is_member former r ≡ true → Contains (owners_of now) r.owner.0
    → is_member now r ≡ true
kept_with_owner former now once none r member has =
    let at = place_of former r r member in
    let here = owner_at now r r.owner.0 has in
    let there = place_of former r (get_or now here.0 r) (old_at former now none here.0 r here.1) in
    let owners : (get_or former at.0 r).owner.0 ≡ (get_or former there.0 r).owner.0 = sym at.2 ∙ sym here.2 ∙ there.2 in
    let same : at.0 ≡ there.0 = one_place former once r at.0 there.0 at.1 there.1 owners in
    let words : word_of r.tuple ≡ word_of (get_or now here.0 r).tuple =
    at.3 ∙ ap (λ (k : ℕ). word_of (get_or former k r).tuple) same ∙ sym there.3 in
    member_at now here.0 r r here.1 (same_from r (get_or now here.0 r) (sym here.2) words)

former_in_now : (former now : List Request) → AllPairs (λ x y. x.owner.0 ≢ y.owner.0) former → IsLifted former now []
    → filter (λ r. not (is_member former r)) now ≡ [] → (r : Request) → is_member former r ≡ true → is_member now r ≡ true
former_in_now former now once lifted none r member =
    true_from_ne_false (is_member now r) (λ absent. still (λ has. both_ways (is_member now r) absent (kept_with_owner former now once none r member has)))
  where
    in_former : Contains (owners_of former) r.owner.0
    in_former =
        let at = place_of former r r member in
        subst (Contains (owners_of former)) (sym at.2) (Contains-map (λ (q : Request). q.owner.0) former at.0 r at.1)

    still : (Contains (owners_of now) r.owner.0 → ⊥) → ⊥
    still gone = let bad = (lifted.members r.owner.0).1 (in_former, gone) in omega (arith, bad.1)

-- ---- if the members are the same

none_lifted : (former now : List Request) (owners : List Ssrc) → IsLifted former now (ssrcs_of owners) → HasSameMembers former now → owners ≡ []
none_lifted former now [] lifted same = refl
none_lifted [] now (s ∷ owners) lifted same =
    let gone = (lifted.members s.0).0 (0, omega arith, refl) in absurd (omega (arith, gone.0.1))
none_lifted (r ∷ rs) now (s ∷ owners) lifted same =
    let former : List Request = r ∷ rs in
    let gone = (lifted.members s.0).0 (0, omega arith, refl) in
    let at = owner_at former r s.0 gone.0 in
    let x : Request = get_or former at.0 r in
    let member : is_member now x ≡ true = sym (same x) ∙ member_at former at.0 r x at.1 (same_from x x refl refl) in
    let there = place_of now r x member in
    absurd (gone.1 (subst (Contains (owners_of now)) (sym there.2 ∙ at.2) (Contains-map (λ (q : Request). q.owner.0) now there.0 r there.1)))

none_fresh : (former now : List Request) → HasSameMembers former now → filter (λ r. not (is_member former r)) now ≡ []
none_fresh former now same =
    all_fail (λ r. not (is_member former r)) now
    (λ k d below. not_from_true (is_member former (get_or now k d))
    (same (get_or now k d) ∙ member_at now k d (get_or now k d) below (same_from (get_or now k d) (get_or now k d) refl refl)))

-- ---- both

same_answers : (b c : Bool) → (b ≡ true → c ≡ true) → (c ≡ true → b ≡ true) → b ≡ c
same_answers true true f g = refl
same_answers true false f g = sym (f refl)
same_answers false true f g = g refl
same_answers false false f g = refl

empty_is : {X : Type 0} (xs : List X) → nat_lt 0 (length xs) ≡ false → xs ≡ []
empty_is [] h = refl
empty_is (x ∷ xs) h = absurd (omega (arith, ltb-false 0 (length (x ∷ xs)) h))

pub unchanged_iff : (former : List Request) (e : Effect) → AllPairs (λ x y. x.owner.0 ≢ y.owner.0) former → IsEffect former e.set.items e
    → (is_changed e ≡ false ↔ HasSameMembers former e.set.items)
unchanged_iff former e once effect = (forward, back)
  where
    forward : is_changed e ≡ false → HasSameMembers former e.set.items
    forward unchanged r =
        let parts = or_parts (nat_lt 0 (length e.lifted.items)) (nat_lt 0 (length e.fresh.items)) unchanged in
        let nobody = subst (λ (owners : List Ssrc). IsLifted former e.set.items (ssrcs_of owners)) (empty_is e.lifted.items parts.0) effect.lifted in
        let none = sym effect.fresh ∙ empty_is e.fresh.items parts.1 in
        same_answers (is_member former r) (is_member e.set.items r)
        (former_in_now former e.set.items once nobody none r) (now_in_former former e.set.items none r)

    back : HasSameMembers former e.set.items → is_changed e ≡ false
    back same =
        or_from (nat_lt 0 (length e.lifted.items)) (nat_lt 0 (length e.fresh.items))
        (ap (λ (owners : List Ssrc). nat_lt 0 (length owners)) (none_lifted former e.set.items e.lifted.items effect.lifted same))
        (ap (λ (requests : List Request). nat_lt 0 (length requests)) (effect.fresh ∙ none_fresh former e.set.items same))
