-- What the answers of the checker's functions cite.
use Rattle.std.proofs.Common.{Result, Ok, Err, [], ◌∷◌, ◌≡◌, ℕ, ◌<◌, ◌≤◌, Bool, true, false, IsTrue, ◌↔◌, List, length, get_or, take, map, sym, ◌∙◌, refl, subst, ap}
use Rattle.std.specs.Prelude.{All, Contains, IsOk, OnOk}
use Rattle.std.specs.List.{AllWithin, HoldsAt}
use Rattle.std.proofs.lemmas.Bool.{false≢true}
use Rattle.rate_cert.specs.declared.certificate.Kept.{Kept}
use Rattle.rate_cert.specs.declared.certificate.Implied.{Implied}
use Rattle.rate_cert.specs.declared.request.Request.{Request}
use Rattle.rate_cert.specs.Certificate.{places_of, named_places, HasPlaces, IsInRange}
use Rattle.std.proofs.lemmas.List.{get_or_default, get_or-map, length-map}
use Rattle.std.proofs.lemmas.List.Elements.{AllWithin-upto, All-from_all_within, All-contains, Contains-append_left, Contains-append_right}

-- a test that was answered true, and one that was answered false
pub shown : {P : Type 0} (b : Bool) → (IsTrue b ↔ P) → b ≡ true → P
shown b iff is = iff.0 is

pub refuted : {P : Type 0} (b : Bool) → (IsTrue b ↔ P) → b ≡ false → P → ⊥
refuted b iff is p = false≢true (sym is ∙ iff.1 p)

-- what a function returns if its loop ended, and if a test failed
pub yes_is : {P : Type 0} → P → (IsTrue true ↔ P)
yes_is p = (λ _. p, λ _. refl)

pub no_is : {P : Type 0} → (P → ⊥) → (IsTrue false ↔ P)
no_is np = (λ e. absurd (false≢true e), λ p. absurd (np p))

pub no_of : {P : Type 0} (b : Bool) → b ≡ false → (P → ⊥) → (IsTrue b ↔ P)
no_of b is np = (λ e. absurd (false≢true (sym is ∙ e)), λ p. absurd (np p))

pub yes_all : {X : Type 0} (P : X → Type 0) (xs : List X) (n : ℕ) → length xs ≤ n → AllWithin P xs 0 n → (IsTrue true ↔ All P xs)
yes_all P xs n long within = yes_is (All-from_all_within P xs (AllWithin-upto P xs 0 n (length xs) long within))

-- the element at i, whatever stands past the end
pub holds_at : {X : Type 0} (P : X → Type 0) (xs : List X) (i : ℕ) (d : X) → i < length xs → P (get_or xs i d) → HoldsAt P xs i
holds_at P xs i d lt p = λ e. subst P (get_or_default xs i d e lt) p

-- what holds of two places holds of the elements there, whatever stands past the end
pub pair_at : {X : Type 0} (R : X → X → Type 0) (xs : List X) (i j : ℕ) (d e : X) → j < length xs
    → ((f : X) → R (get_or xs i f) (get_or xs j f)) → R (get_or xs i d) (get_or xs j e)
pair_at R xs i j d e jb r = subst (λ y. R (get_or xs i d) y) (get_or_default xs j d e jb) (r d)

-- the first named places are those of the kept entries
pub take-named_places : (kept : List Kept) (implied : List Implied) → take (length kept) (named_places kept implied) ≡ places_of kept
take-named_places [] implied = refl
take-named_places (k ∷ kept) implied = ap (λ ps. k.place ∷ ps) (take-named_places kept implied)

-- the place of an entry is among the places of all
pub Contains-map : {X : Type 0} (f : X → ℕ) (xs : List X) (i : ℕ) (d : X) → i < length xs → Contains (map f xs) (f (get_or xs i d))
Contains-map f xs i d below = (i, rw length-map below, get_or-map f xs i d _ below)

pub entry_at : {X : Type 0} (f : X → ℕ) (xs : List X) (d : X) (x : ℕ) → Contains (map f xs) x
    → (k : ℕ) × (k < length xs) × (f (get_or xs k d) ≡ x)
entry_at f xs d x has =
    let below : has.0 < length xs = rw length-map at has.1 in
    (has.0, below, sym (get_or-map f xs has.0 d x below) ∙ has.2)

-- the entries of a certificate that has its places name requests
pub kept_in_range : (requests : List Request) (kept : List Kept) (implied : List Implied) → HasPlaces requests kept implied
    → All (λ k. k.place < length requests) kept
kept_in_range requests kept implied has = λ i d below.
    All-contains (λ place. place < length requests) (named_places kept implied) _ has.named.in_range
    (Contains-append_left (places_of kept) _ _ (Contains-map (λ k. k.place) kept i d below))

pub implied_in_range : (requests : List Request) (kept : List Kept) (implied : List Implied) → HasPlaces requests kept implied
    → All (IsInRange requests) implied
implied_in_range requests kept implied has = λ i d below.
    let InRange : ℕ → Type 0 = λ place. place < length requests in
    let named = named_places kept implied in
    let neighbours = has.neighbours i d below in record {
      place = All-contains InRange named _ has.named.in_range
          (Contains-append_right (places_of kept) _ _ (Contains-map (λ i. i.place) implied i d below));
      a = All-contains InRange named _ has.named.in_range (Contains-append_left (places_of kept) _ _ neighbours.0);
      b = All-contains InRange named _ has.named.in_range (Contains-append_left (places_of kept) _ _ neighbours.1);
    }

-- what follows from an `Ok` holds on it
pub on_ok : {T E P : Type 0} (r : Result T E) → (IsOk r → P) → OnOk r P
on_ok (Ok x) follows = follows refl
on_ok (Err e) follows = tt
