-- Numbers that decimal digits spell, below a limit.
use Rattle.std.proofs.Common.{◌≡◌, ◌∙◌, ◌<◌, ◌^◌, ◌==◌, ◌&&◌, ℕ, suc, zero, Bool, true, false, cond, drop, get_or, refl, sym, ap, subst, arith, List, [], ◌∷◌, Some, None, Result, Ok, Err, nat_lt, IsUtf8}
use Rattle.std.specs.List.{list_all}
use Rattle.std.specs.Result.{result_ok}
use Rattle.std.specs.Char.{digit_value}
use Rattle.std.specs.Str.Parse.{IsNumeral, ParsesUnsigned, digits_value, without_leading_plus}
use Rattle.std.proofs.lemmas.Bool.{cond-false, cond-true, lt-ltb, ltb-true, ne_eqb}
use Rattle.std.proofs.lemmas.Str.{IsUtf8-from_ascii}
use Rattle.std.proofs.lemmas.Str.Parse.{digit_from_value}
use Rattle.clap.specs.ValueTests.{is_numeral}
use Rattle.request_text.specs.Words.{number_under}
use Rattle.request_text.proofs.DigitLemmas.{both, digits_back, digits_from}

abbrev is_number : ℕ → List ℕ → Bool
is_number limit ds = is_numeral ds && nat_lt (digits_value 10 ds) limit

is_fit : (limit : ℕ) (ds : List ℕ) → IsNumeral 10 ds → digits_value 10 ds < limit → is_number limit ds ≡ true
is_fit limit ds numeral fits = rw (lt-ltb _ _ numeral.0, digits_back ds numeral.1, lt-ltb _ _ fits) refl

fit_is : (limit : ℕ) (ds : List ℕ) → is_number limit ds ≡ true → IsNumeral 10 ds × (digits_value 10 ds < limit)
fit_is limit ds e =
    let parts = both _ _ e in
    let numeral = both _ _ parts.0 in
    ((ltb-true _ _ numeral.0, digits_from ds numeral.1), ltb-true _ _ parts.1)

abbrev are_digits : List ℕ → Bool
are_digits word = list_all (λ d. nat_lt (digit_value d) 10) word

-- digits have no sign before them
no_plus : (word : List ℕ) → are_digits word ≡ true → without_leading_plus word ≡ word
no_plus [] e = refl
no_plus (d ∷ ds) e =
    let digit = digit_from_value d (ltb-true _ _ (both _ _ e).0) in
    let plus : (d == 43) ≡ false = ne_eqb d 43 (λ is. omega (arith, digit)) in
    ap (λ (b : Bool). drop (cond b 1 0) (d ∷ ds)) plus

number_at : (bits : ℕ) (E : Type 0) (word : List ℕ) (r : Result ℕ E) → ParsesUnsigned bits 10 word r → without_leading_plus word ≡ word
    → result_ok r ≡ number_under (2 ^ bits) word
number_at bits E word (Ok v) h whole =
    let numeral : IsNumeral 10 word = subst (λ (t : List ℕ). IsNumeral 10 t) whole h.0.0 in
    let fits : digits_value 10 word < 2 ^ bits = subst (λ (t : List ℕ). digits_value 10 t < 2 ^ bits) whole h.0.1 in
    ap Some (h.1 ∙ ap (digits_value 10) whole) ∙ sym (cond-true (is_number (2 ^ bits) word) _ _ (is_fit (2 ^ bits) word numeral fits))
number_at bits E word (Err x) h whole = go (is_number (2 ^ bits) word) refl
  where
    go : (b : Bool) → is_number (2 ^ bits) word ≡ b → None ≡ number_under (2 ^ bits) word
    go true e =
        let is = fit_is (2 ^ bits) word e in
        absurd (h (subst (λ (t : List ℕ). IsNumeral 10 t × (digits_value 10 t < 2 ^ bits)) (sym whole) is))
    go false e = sym (cond-false (is_number (2 ^ bits) word) _ _ e)

pub parsed_number : (bits : ℕ) (E : Type 0) (word : List ℕ) (r : Result ℕ E) → are_digits word ≡ true → ParsesUnsigned bits 10 word r
    → result_ok r ≡ number_under (2 ^ bits) word
parsed_number bits E word r digits parses = number_at bits E word r parses (no_plus word digits)

-- digits are ASCII
ascii : (word : List ℕ) → are_digits word ≡ true → (i : ℕ) → get_or word i 0 < 128
ascii [] e i = omega arith
ascii (d ∷ ds) e zero =
    let digit = digit_from_value d (ltb-true _ _ (both _ _ e).0) in
    omega (arith, digit)
ascii (d ∷ ds) e (suc i) = ascii ds (both _ _ e).1 i

pub digits_utf8 : (word : List ℕ) → are_digits word ≡ true → IsUtf8 word
digits_utf8 word e = IsUtf8-from_ascii word (ascii word e)
