-- What is written of the request at a place, and of each entry with its number.
use Rattle.std.proofs.Common.{◌≡◌, ◌<◌, ◌+◌, ◌++◌, ◌∙◌, ℕ, List, [], ◌∷◌, length, get_or, take, sym, ap, unwrap_or, option_map, arith}
use Rattle.std.proofs.lemmas.Option.{slice_get-get_or}
use Rattle.std.proofs.lemmas.List.{append-nil, append_assoc, length-take, take_more}
use Rattle.std.specs.Prelude.{All}
use Rattle.rate_cert.specs.declared.request.Request.{Request}
use Rattle.rate_cert.specs.declared.certificate.Implied.{Implied}
use Rattle.rate_cert.specs.Certificate.{IsInRange}
use Rattle.drawing.specs.declared.scale.Scale.{Scale}
use Rattle.drawing.specs.Picture.{line_at, line_text, name_at, name_text, each_row}

pub line_at-row : (s : Scale) (rows : List Request) (place : ℕ) (d : Request) → place < length rows → line_text s (get_or rows place d) ≡ line_at s rows place
unfolding line_at
line_at-row s rows place d below = sym (ap (λ o. unwrap_or (option_map (line_text s) o) []) (slice_get-get_or rows place d below))

pub name_at-row : (number : ℕ) (rows : List Request) (place : ℕ) (d : Request) → place < length rows → name_text number (get_or rows place d) ≡ name_at rows number place
unfolding name_at
name_at-row number rows place d below = sym (ap (λ o. unwrap_or (option_map (name_text number) o) []) (slice_get-get_or rows place d below))

pub each_row-push : {A : Type 0} (text : ℕ → A → List ℕ) (n : ℕ) (xs : List A) (x : A)
    → each_row text n (xs ++ x ∷ []) ≡ each_row text n xs ++ text (n + length xs) x
each_row-push text n [] x =
    let none_more : n ≡ n + 0 = omega arith in
    append-nil (text n x) ∙ ap (λ (k : ℕ). text k x) none_more
each_row-push text n (y ∷ xs) x =
    let same : n + 1 + length xs ≡ n + length (y ∷ xs) = omega arith in
    ap (λ (l : List ℕ). text n y ++ l) (each_row-push text (n + 1) xs x)
    ∙ sym (append_assoc (text n y) (each_row text (n + 1) xs) (text (n + 1 + length xs) x))
    ∙ ap (λ (k : ℕ). (text n y ++ each_row text (n + 1) xs) ++ text k x) same

-- one entry more
pub each_row-more : {A : Type 0} (text : ℕ → A → List ℕ) (xs : List A) (i : ℕ) (d : A) → i < length xs
    → each_row text 0 (take (i + 1) xs) ≡ each_row text 0 (take i xs) ++ text i (get_or xs i d)
each_row-more text xs i d below =
    let count : 0 + length (take i xs) ≡ i = omega (arith, length-take i xs) in
    ap (λ l. each_row text 0 l) (take_more xs i d below)
    ∙ each_row-push text 0 (take i xs) (get_or xs i d)
    ∙ ap (λ (k : ℕ). each_row text 0 (take i xs) ++ text k (get_or xs i d)) count

-- a loop's turn
pub names-step : {A : Type 0} (f : ℕ → A → List ℕ) (xs : List A) (i number : ℕ) (item : A) (old text new : List ℕ)
    → i < length xs → number ≡ i → item ≡ get_or xs i item → text ≡ old ++ each_row f 0 (take i xs)
    → new ≡ text ++ f number item → new ≡ old ++ each_row f 0 (take (i + 1) xs)
names-step f xs i number item old text new below same is before after =
    after
    ∙ ap (λ (t : List ℕ). t ++ f number item) before
    ∙ append_assoc old (each_row f 0 (take i xs)) (f number item)
    ∙ ap (λ (n : ℕ). old ++ (each_row f 0 (take i xs) ++ f n item)) same
    ∙ ap (λ x. old ++ (each_row f 0 (take i xs) ++ f i x)) is
    ∙ ap (λ (l : List ℕ). old ++ l) (sym (each_row-more f xs i item below))

pub implied_places : (rows : List Request) (implied : List Implied) → All (IsInRange rows) implied
    → All (λ (i : Implied). i.place < length rows) implied
implied_places rows implied all = λ k d h. (all k d h).place
