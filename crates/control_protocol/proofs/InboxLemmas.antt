-- The first end of a line among bytes.
use Rattle.std.proofs.Common.{◌≡◌, ◌∙◌, ℕ, ◌+◌, ◌-◌, ◌<◌, ◌==◌, true, List, ◌∷◌, ◌++◌, length, take, drop, get_or, drop-cons, add-one, get_or-take, length-take-le, length-drop, take_all, sym, ap, arith, None, Some}
use Rattle.std.proofs.lemmas.List.{take-append-drop}
use Rattle.std.proofs.lemmas.Bool.Decides.{nat_tests}
use Rattle.memchr.specs.Find.{IsFirstByte, is_byte}
use Rattle.control_protocol.specs.Inboxes.{IsLineOf, IsOpen}

pub open_at : (bytes : List ℕ) → IsFirstByte (is_byte 10) bytes None → IsOpen bytes
open_at bytes none = λ k below. none k (omega arith) below

is_ten : (x : ℕ) → (x == 10) ≡ true → x ≡ 10
is_ten x e = grind (arith, nat_tests)

pub line_at : (bytes : List ℕ) (k : ℕ) → IsFirstByte (is_byte 10) bytes (Some k)
    → IsLineOf bytes (take k bytes) (take (length bytes - (k + 1)) (drop (k + 1) bytes))
line_at bytes k found =
    let left : length (drop (k + 1) bytes) ≡ length bytes - (k + 1) = length-drop (k + 1) bytes in
    let all : take (length bytes - (k + 1)) (drop (k + 1) bytes) ≡ drop (k + 1) bytes =
    take_all (length bytes - (k + 1)) (drop (k + 1) bytes) (omega (arith, left)) in
    record {
      parts = sym (take-append-drop k bytes)
          ∙ ap (λ (l : List ℕ). take k bytes ++ l)
          (drop-cons bytes k 0 found.0.high ∙ ap (λ n. get_or bytes k 0 ∷ drop n bytes) (sym (add-one k))
          ∙ ap (λ b. b ∷ drop (k + 1) bytes) (is_ten (get_or bytes k 0) found.1))
          ∙ ap (λ (l : List ℕ). take k bytes ++ 10 ∷ l) (sym all);
      first = λ i below is.
          let size : length (take k bytes) ≡ k = length-take-le k bytes (omega (arith, found.0.high)) in
          let low : i < k = omega (arith, below, size) in
          found.0.before i (omega arith) low (ap (λ x. x == 10) (sym (get_or-take k bytes i 0 low)) ∙ is);
    }
