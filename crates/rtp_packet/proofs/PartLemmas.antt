-- The parts of a packet, and the places where they end.
use Rattle.std.proofs.Common.{◌≡◌, ℕ, ◌+◌, ◌-◌, ◌*◌, ◌/◌, ◌%◌, ◌<◌, ◌≤◌, Bool, true, false, List, [], ◌∷◌, ◌++◌, length, take, drop, slice_index, refl, sym, ap, ◌∙◌, arith, length-append}
use Rattle.std.proofs.lemmas.List.{drop-drop, drop_at, take_at, append-nil, get_or-append_right, take_rest}
use Rattle.std.proofs.lemmas.Bool.Decides.{nat_tests}
use Rattle.std.specs.Prelude.{nat_lt}
use Rattle.byteorder.specs.Endian.{big_number}
use Rattle.rtp_packet.specs.Grammar.{bit_of, is_there, IsExtension, IsPadding}
use Rattle.rtp_packet.specs.Fault.{csrc_end, extension_end}

-- what the first byte's bits are
pub first_parts : (x c : ℕ) (p e : Bool) → x ≡ 2 * 64 + 32 * bit_of p + 16 * bit_of e + c → c < 16
    → (x / 64 ≡ 2) × (x / 32 % 2 ≡ bit_of p) × (x / 16 % 2 ≡ bit_of e) × (x % 16 ≡ c)
first_parts x c true true h hc = (omega arith, omega arith, omega arith, omega arith)
first_parts x c true false h hc = (omega arith, omega arith, omega arith, omega arith)
first_parts x c false true h hc = (omega arith, omega arith, omega arith, omega arith)
first_parts x c false false h hc = (omega arith, omega arith, omega arith, omega arith)

pub bit_of-injective : (a b : Bool) → bit_of a ≡ bit_of b → a ≡ b
bit_of-injective true true h = refl
bit_of-injective true false h = absurd (omega arith)
bit_of-injective false true h = absurd (omega arith)
bit_of-injective false false h = refl

-- what the second byte's bits are
pub second_parts : (m n : Bool) (x y : ℕ) → x < 128 → y < 128 → 128 * bit_of m + x ≡ 128 * bit_of n + y → (m ≡ n) × (x ≡ y)
second_parts true true x y hx hy h = (refl, omega arith)
second_parts true false x y hx hy h = absurd (omega arith)
second_parts false true x y hx hy h = absurd (omega arith)
second_parts false false x y hx hy h = (refl, omega arith)

-- joined lists whose fronts are as long are equal part by part
pub append-parts : (a b x y : List ℕ) → length a ≡ length b → a ++ x ≡ b ++ y → (a ≡ b) × (x ≡ y)
append-parts a b x y h e = (
  sym (take_at a x (length a) refl) ∙ ap (take (length a)) e ∙ take_at b y (length a) (sym h),
  sym (drop_at a x (length a) refl) ∙ ap (drop (length a)) e ∙ drop_at b y (length a) (sym h),
)

-- what stands after a part of what stands after n bytes
pub drop-part : (d part rest : List ℕ) (n m : ℕ) → drop n d ≡ part ++ rest → m ≡ n + length part → drop m d ≡ rest
drop-part d part rest n m e h =
    ap (λ (k : ℕ). drop k d) h ∙ sym (drop-drop (length part) n d) ∙ ap (drop (length part)) e ∙ drop_at part rest (length part) refl

-- the test for 0 tells a number above 0 from 0
above_differs : (m n : ℕ) → m ≡ 0 → 0 < n → nat_lt 0 m ≡ nat_lt 0 n → ⊥
above_differs m n zero_m above same = grind (arith, nat_tests)

-- the count of an extension's words, whatever follows
pub count_of_extension : (e more : List ℕ) → 4 ≤ length e → big_number 2 (drop 2 (e ++ more)) ≡ big_number 2 (drop 2 e)
count_of_extension [] more h = absurd (omega arith)
count_of_extension (a ∷ []) more h = absurd (omega arith)
count_of_extension (a ∷ (b ∷ [])) more h = absurd (omega arith)
count_of_extension (a ∷ (b ∷ (c ∷ []))) more h = absurd (omega arith)
count_of_extension (a ∷ (b ∷ (c ∷ (d ∷ e)))) more h = refl

-- an extension is told by its bytes, whatever follows
pub extension-injective : (e f xs ys : List ℕ) → IsExtension e → IsExtension f → is_there e ≡ is_there f
    → e ++ xs ≡ f ++ ys → (e ≡ f) × (xs ≡ ys)
extension-injective [] [] xs ys he hf there h = (refl, h)
extension-injective [] (v ∷ f) xs ys he hf there h = absurd (above_differs 0 (length (v ∷ f)) refl (omega arith) there)
extension-injective (u ∷ e) [] xs ys he hf there h = absurd (above_differs 0 (length (u ∷ e)) refl (omega arith) (sym there))
extension-injective (u ∷ e) (v ∷ f) xs ys he hf there h =
    let valid_e = he (omega arith) in
    let valid_f = hf (omega arith) in
    let count : big_number 2 (drop 2 (u ∷ e)) ≡ big_number 2 (drop 2 (v ∷ f)) =
    sym (count_of_extension (u ∷ e) xs valid_e.0) ∙ ap (λ (l : List ℕ). big_number 2 (drop 2 l)) h ∙ count_of_extension (v ∷ f) ys valid_f.0 in
    append-parts (u ∷ e) (v ∷ f) xs ys (valid_e.1 ∙ ap (λ (n : ℕ). 4 + 4 * n) count ∙ sym valid_f.1) h

-- so many bytes as the count among the first four says are an extension
pub extension_read : (rest e more : List ℕ) (n : ℕ) → rest ≡ e ++ more → length e ≡ 4 + 4 * n
    → n ≡ big_number 2 (take (length rest - 2) (drop 2 rest)) → IsExtension e
extension_read rest e more n is l c = λ some.
    let whole : 4 ≤ length e = omega arith in
    let counted : n ≡ big_number 2 (drop 2 e) =
    c ∙ (ap (big_number 2) (take_rest rest 2) ∙ (ap (λ (y : List ℕ). big_number 2 (drop 2 y)) is ∙ count_of_extension e more whole)) in
    (whole, l ∙ ap (λ (k : ℕ). 4 + 4 * k) counted)

-- the last byte of a payload and its padding
pub count_of_padding : (payload padding : List ℕ) → IsPadding padding → 0 < length padding
    → slice_index (payload ++ padding) (length (payload ++ padding) - 1) ≡ length padding
count_of_padding payload padding h some =
    let n = length (payload ++ padding) - 1 in
    let joined = length-append payload padding in
    let place : n - length payload ≡ length padding - 1 = omega arith in
    get_or-append_right payload padding (length payload) n 0 refl (omega arith) ∙ ap (λ (k : ℕ). slice_index padding k) place ∙ h

-- what the test for 0 says
above_shown : (n : ℕ) → 0 < n → nat_lt 0 n ≡ true
above_shown n h = grind (arith, nat_tests)

pub above-from_bit : (n : ℕ) → bit_of (nat_lt 0 n) ≡ 1 → 0 < n
above-from_bit n h = grind (arith, nat_tests)

-- payload and padding are told by their bytes and by whether there is padding
pub padding-injective : (a b x y : List ℕ) → IsPadding x → IsPadding y → nat_lt 0 (length x) ≡ nat_lt 0 (length y)
    → a ++ x ≡ b ++ y → (a ≡ b) × (x ≡ y)
padding-injective a b [] [] hx hy there e = (sym (append-nil a) ∙ e ∙ append-nil b, refl)
padding-injective a b [] (v ∷ y) hx hy there e = absurd (above_differs 0 (length (v ∷ y)) refl (omega arith) there)
padding-injective a b (u ∷ x) [] hx hy there e = absurd (above_differs 0 (length (u ∷ x)) refl (omega arith) (sym there))
padding-injective a b (u ∷ x) (v ∷ y) hx hy there e =
    let last_x = count_of_padding a (u ∷ x) hx (omega arith) in
    let last_y = count_of_padding b (v ∷ y) hy (omega arith) in
    let same : length (u ∷ x) ≡ length (v ∷ y) =
    sym last_x ∙ ap (λ (l : List ℕ). slice_index l (length l - 1)) e ∙ last_y in
    let sizes = ap length e in
    let fronts : length a ≡ length b = omega (arith, length-append a (u ∷ x), length-append b (v ∷ y), sizes, same) in
    append-parts a b (u ∷ x) (v ∷ y) fronts e

-- The place after the extension: that after the CSRCs, or the extension's bytes further.
pub extension_end-is : (d rest more e : List ℕ) → slice_index d 0 / 16 % 2 ≡ bit_of (is_there e) → IsExtension e
    → drop (csrc_end d) d ≡ rest → rest ≡ e ++ more → extension_end d ≡ csrc_end d + length e
extension_end-is d rest more [] there he place h =
    let off : slice_index d 0 / 16 % 2 ≡ 0 = there in
    rw off (omega arith)
extension_end-is d rest more (u ∷ e) there he place h =
    let on : slice_index d 0 / 16 % 2 ≡ 1 = there ∙ ap bit_of (above_shown (length (u ∷ e)) (omega arith)) in
    let valid = he (omega arith) in
    let behind : drop (csrc_end d + 2) d ≡ drop 2 ((u ∷ e) ++ more) = sym (drop-drop 2 (csrc_end d) d) ∙ ap (drop 2) (place ∙ h) in
    let count : big_number 2 (drop (csrc_end d + 2) d) ≡ big_number 2 (drop 2 (u ∷ e)) =
    ap (big_number 2) behind ∙ count_of_extension (u ∷ e) more valid.0 in
    rw on (omega (arith, valid.1, count))
