-- The nine words of an implied line.
use Rattle.std.proofs.Common.{◌≡◌, ◌&&◌, ℕ, length, map, get_or, refl, arith, List, [], ◌∷◌, Bor, Option, None, codes, bytes_eq, if◌then◌else◌, option_map, option_and_then}
use Rattle.request_text.specs.CheckFile.{Line, ask_spelled, claim_in, implied, implied_words}

-- what stands past the last word
abbrev pub nothing : Bor (List ℕ)
nothing = record { ref_ptr = (0, 0); now = [] }

abbrev pub word_at : List (Bor (List ℕ)) → ℕ → List ℕ
word_at words k = (get_or words k nothing).now

abbrev pub implied_at : List (Bor (List ℕ)) → Option Line
implied_at ws =
    if bytes_eq (word_at ws 2) (codes "by") && bytes_eq (word_at ws 5) (codes "times")
    then option_and_then (λ asked. option_map (implied asked) (claim_in (word_at ws 3) (word_at ws 4) (word_at ws 6) (word_at ws 7) (word_at ws 8))) (ask_spelled (word_at ws 0) (word_at ws 1))
    else None

pub nine : (words : List (Bor (List ℕ))) → length words ≡ 9 → implied_words (map (λ (x : Bor (List ℕ)). x.now) words) ≡ implied_at words
nine [] e = absurd (omega (arith, e))
nine (a ∷ []) e = absurd (omega (arith, e))
nine (a ∷ (b ∷ [])) e = absurd (omega (arith, e))
nine (a ∷ (b ∷ (c ∷ []))) e = absurd (omega (arith, e))
nine (a ∷ (b ∷ (c ∷ (d ∷ [])))) e = absurd (omega (arith, e))
nine (a ∷ (b ∷ (c ∷ (d ∷ (f ∷ []))))) e = absurd (omega (arith, e))
nine (a ∷ (b ∷ (c ∷ (d ∷ (f ∷ (g ∷ [])))))) e = absurd (omega (arith, e))
nine (a ∷ (b ∷ (c ∷ (d ∷ (f ∷ (g ∷ (h ∷ []))))))) e = absurd (omega (arith, e))
nine (a ∷ (b ∷ (c ∷ (d ∷ (f ∷ (g ∷ (h ∷ (i ∷ [])))))))) e = absurd (omega (arith, e))
nine (a ∷ (b ∷ (c ∷ (d ∷ (f ∷ (g ∷ (h ∷ (i ∷ (j ∷ []))))))))) e = refl
nine (a ∷ (b ∷ (c ∷ (d ∷ (f ∷ (g ∷ (h ∷ (i ∷ (j ∷ (k ∷ words)))))))))) e = absurd (omega (arith, e))
