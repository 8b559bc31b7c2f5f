-- What is plain, or is printed, is ASCII, and so it is a text.
use Rattle.std.proofs.Common.{◌≡◌, ◌<◌, ◌&&◌, ℕ, suc, zero, Bool, true, false, get_or, refl, sym, arith, true≢false, List, [], ◌∷◌, IsUtf8}
use Rattle.std.proofs.lemmas.Str.{IsUtf8-from_ascii}
use Rattle.std.proofs.lemmas.Bool.{leb-true}
use Rattle.std.specs.Char.{is_ascii_graphic}
use Rattle.std.specs.List.{list_all}
use Rattle.web.specs.Words.{is_plain, is_printed}

both : (a b : Bool) → (a && b) ≡ true → (a ≡ true) × (b ≡ true)
both true b e = (refl, e)
both false b e = absurd (true≢false (sym e))

ascii : (word : List ℕ) → is_plain word ≡ true → (i : ℕ) → get_or word i 0 < 128
ascii [] e i = omega arith
ascii (d ∷ ds) e zero =
    let least = leb-true d 122 (both _ _ (both _ _ e).0).0 in omega (arith, least)
ascii (d ∷ ds) e (suc i) = ascii ds (both _ _ e).1 i

pub plain_utf8 : (word : List ℕ) → is_plain word ≡ true → IsUtf8 word
plain_utf8 word e = IsUtf8-from_ascii word (ascii word e)

graphic_ascii : (word : List ℕ) → list_all is_ascii_graphic word ≡ true → (i : ℕ) → get_or word i 0 < 128
graphic_ascii [] e i = omega arith
graphic_ascii (d ∷ ds) e zero =
    let most = leb-true d 126 (both _ _ (both _ _ e).0).1 in omega (arith, most)
graphic_ascii (d ∷ ds) e (suc i) = graphic_ascii ds (both _ _ e).1 i

pub printed_utf8 : (word : List ℕ) → is_printed word ≡ true → IsUtf8 word
printed_utf8 word e = IsUtf8-from_ascii word (graphic_ascii word (both _ _ e).1)
