-- The bits of kept places.
use Rattle.std.proofs.Common.{◌≡◌, ℕ, zero, ◌+◌, ◌<◌, ◌≤◌, ◌*◌, ◌/◌, ◌%◌, ◌^◌, ◌↔◌, List, [], ◌∷◌, ◌++◌, length, get_or, set, take, replicate, bit_or, ⊎_elim, inl, inr, sym, ap, ◌∙◌, subst, arith, get_or-set_other, get_or-set_same}
use Rattle.std.specs.Prelude.{All, Contains}
use Rattle.std.specs.Int.{bit_at}
use Rattle.std.proofs.lemmas.Bool.{cases_eq, cases_lt}
use Rattle.std.proofs.lemmas.List.{map-append, take_more, length-set, get_or-replicate, get_or_past, length-replicate}
use Rattle.std.proofs.lemmas.List.Elements.{All-contains, All-weaker, Contains-append_left, Contains-push, Contains-push_cases}
use Rattle.std.proofs.lemmas.Nat.{one_shl}
use Rattle.std.proofs.lemmas.Nat.Bits.{bit_at_or, bit_at-lt, bit_at-zero, bit_at-pow_same, bit_at-pow_other}
use Rattle.rate_cert.specs.declared.request.Request.{Request}
use Rattle.rate_cert.specs.declared.certificate.Kept.{Kept}
use Rattle.rate_cert.specs.declared.certificate.Cert.{Cert}
use Rattle.rate_cert.specs.Certificate.{places_of, kept_places}
use Rattle.rate_cert.proofs.ChoiceLemmas.{kept_below}
use Rattle.bounding_set.specs.declared.rows.TheConstants.{LIVE_LIMIT}
use Rattle.bounding_set.specs.Canonical.{IsCanonical}
use Rattle.desk.specs.declared.kept.TheConstants.{WORD_BITS}
use Rattle.desk.specs.declared.call.TheConstants.{KEPT_WORDS}
use Rattle.desk.specs.Kept.{KeepsRows, IsMarked}

-- the marked rows are those of these places
pub record HasBits (places words : List ℕ) : Type 0 where
  pub are : (row : ℕ) → (IsMarked words row ↔ Contains places row)
  pub long : length words ≡ KEPT_WORDS

-- a row is known by its word and its bit
row_by : (row place : ℕ) → row / WORD_BITS ≡ place / WORD_BITS → row % WORD_BITS ≡ place % WORD_BITS → row ≡ place
row_by row place word bit = omega (arith, word, bit)

zeros : (n i : ℕ) → get_or (replicate n zero) i zero ≡ zero
zeros n i = elim (cases_lt i n) [
  | inl lt ↦ get_or-replicate n i zero zero lt
  | inr past ↦ get_or_past (replicate n zero) i zero (omega (arith, past, length-replicate n zero))
]

pub HasBits-none : HasBits [] (replicate KEPT_WORDS zero)
HasBits-none = record {
  are = λ row. (
    λ one. absurd (omega (arith, one, ap (λ w. bit_at w (row % WORD_BITS)) (zeros KEPT_WORDS (row / WORD_BITS)), bit_at-zero (row % WORD_BITS))),
    λ has. absurd (omega (arith, has.1)),
  );
  long = length-replicate KEPT_WORDS zero;
}

pub HasBits-push : (places words : List ℕ) (place : ℕ) → HasBits places words → place / WORD_BITS < KEPT_WORDS
    → HasBits (places ++ place ∷ [])
    (set words (place / WORD_BITS) (bit_or (get_or words (place / WORD_BITS) 0) (2 ^ (place % WORD_BITS))))
HasBits-push places words place has within = record {
  are = λ row. (shows row, shown row);
  long = length-set words at new ∙ has.long;
}
  where
    at : ℕ
    at = place / WORD_BITS

    bit : ℕ
    bit = place % WORD_BITS

    former : ℕ
    former = get_or words at 0

    new : ℕ
    new = bit_or former (2 ^ bit)

    here : get_or (set words at new) at 0 ≡ new
    here = get_or-set_same words at new 0 (omega (arith, within, has.long))

    same_word : (row : ℕ) → row / WORD_BITS ≡ at → get_or (set words at new) (row / WORD_BITS) 0 ≡ new
    same_word row same = ap (λ k. get_or (set words at new) k 0) same ∙ here

    former_word : (row : ℕ) → row / WORD_BITS ≡ at → former ≡ get_or words (row / WORD_BITS) 0
    former_word row same = ap (λ k. get_or words k 0) (sym same)

    shows : (row : ℕ) → IsMarked (set words at new) row → Contains (places ++ place ∷ []) row
    shows row one =
        ⊎_elim
        (λ same.
        let now : bit_at new (row % WORD_BITS) ≡ 1 = sym (ap (λ w. bit_at w (row % WORD_BITS)) (same_word row same)) ∙ one in
        ⊎_elim
        (λ same_bit. subst (Contains (places ++ place ∷ [])) (sym (row_by row place same same_bit)) (Contains-push places place))
        (λ apart.
        let before : bit_at former (row % WORD_BITS) ≡ 1 =
        omega (arith, now, bit_at_or former (2 ^ bit) (row % WORD_BITS), bit_at-pow_other bit (row % WORD_BITS) apart) in
        Contains-append_left places (place ∷ []) row
        ((has.are row).0 (sym (ap (λ w. bit_at w (row % WORD_BITS)) (former_word row same)) ∙ before)))
        (cases_eq (row % WORD_BITS) bit))
        (λ differs.
        Contains-append_left places (place ∷ []) row
        ((has.are row).0 (sym (ap (λ w. bit_at w (row % WORD_BITS)) (get_or-set_other words at (row / WORD_BITS) new 0 differs)) ∙ one)))
        (cases_eq (row / WORD_BITS) at)

    marked_before : (row : ℕ) → IsMarked words row → IsMarked (set words at new) row
    marked_before row one =
        ⊎_elim
        (λ same.
        let before : bit_at former (row % WORD_BITS) ≡ 1 = ap (λ w. bit_at w (row % WORD_BITS)) (former_word row same) ∙ one in
        ap (λ w. bit_at w (row % WORD_BITS)) (same_word row same)
        ∙ omega (arith, before, bit_at_or former (2 ^ bit) (row % WORD_BITS), bit_at-lt (2 ^ bit) (row % WORD_BITS)))
        (λ differs. ap (λ w. bit_at w (row % WORD_BITS)) (get_or-set_other words at (row / WORD_BITS) new 0 differs) ∙ one)
        (cases_eq (row / WORD_BITS) at)

    marked_here : IsMarked (set words at new) place
    marked_here =
        ap (λ w. bit_at w bit) here
        ∙ omega (arith, bit_at_or former (2 ^ bit) bit, bit_at-pow_same bit, bit_at-lt former bit)

    shown : (row : ℕ) → Contains (places ++ place ∷ []) row → IsMarked (set words at new) row
    shown row c =
        ⊎_elim
        (λ before. marked_before row ((has.are row).1 before))
        (λ same. subst (IsMarked (set words at new)) same marked_here)
        (Contains-push_cases places place row c)

-- one entry more is one bit more
pub HasBits-more : (kept : List Kept) (i bits : ℕ) (words : List ℕ) (k : Kept) → i < length kept → k ≡ get_or kept i k
    → k.place / WORD_BITS < KEPT_WORDS → k.place % WORD_BITS < bits → HasBits (places_of (take i kept)) words
    → HasBits (places_of (take (i + 1) kept))
    (set words (k.place / WORD_BITS) (bit_or (get_or words (k.place / WORD_BITS) 0) (1 * 2 ^ (k.place % WORD_BITS) % 2 ^ bits)))
HasBits-more kept i bits words k below is within fits has =
    let places : places_of (take (i + 1) kept) ≡ places_of (take i kept) ++ k.place ∷ [] =
    ap places_of (take_more kept i k below)
    ∙ map-append (λ (e : Kept). e.place) (take i kept) (get_or kept i k ∷ [])
    ∙ ap (λ (e : Kept). places_of (take i kept) ++ e.place ∷ []) (sym is) in
    let Marks : ℕ → Type 0 = λ n. HasBits (places_of (take (i + 1) kept)) (set words (k.place / WORD_BITS) (bit_or (get_or words (k.place / WORD_BITS) 0) n)) in
    subst Marks (sym (one_shl (k.place % WORD_BITS) bits fits))
    (subst (λ ps. HasBits ps (set words (k.place / WORD_BITS) (bit_or (get_or words (k.place / WORD_BITS) 0) (2 ^ (k.place % WORD_BITS))))) (sym places)
    (HasBits-push (places_of (take i kept)) words k.place has within))

-- the bits of a canonical choice say which rows are announced
pub KeepsRows-from_bits : (rows : List Request) (places words : List ℕ) → IsCanonical rows places → HasBits places words → KeepsRows rows words
KeepsRows-from_bits rows places words canonical has = record {
  announced = λ row below.
      (λ one. (canonical.announced row below).0 ((has.are row).0 one), λ is. (has.are row).1 ((canonical.announced row below).1 is));
  no_more = λ row past one.
      let below : row < length rows = All-contains (λ p. p < length rows) places row canonical.choice.in_range ((has.are row).0 one) in
      omega (arith, below, past);
}

-- the places of a canonical choice of live requests are below the limit
pub kept_below_limit : (rows : List Request) (cert : Cert) → length rows ≤ LIVE_LIMIT → IsCanonical rows (kept_places cert)
    → All (λ (k : Kept). k.place < LIVE_LIMIT) cert.kept.items
kept_below_limit rows cert few canonical =
    All-weaker (λ (k : Kept). k.place < length rows) (λ k. k.place < LIVE_LIMIT) (λ k below. omega arith) cert.kept.items
    (kept_below rows cert.kept.items canonical.choice)
