-- Items and chunks that are walked over, as trees and back.
use Rattle.std.proofs.Common.{◌≡◌, ◌∙◌, ℕ, zero, suc, ◌+◌, ◌-◌, ◌%◌, ◌<◌, ◌≤◌, Bool, true, false, List, [], ◌∷◌, ◌++◌, length, take, drop, Option, Some, None, cond, nat_lt, refl, sym, ap, ap₂, subst, arith, length-append, inl, inr, add_comm}
use Rattle.std.specs.Prelude.{◌==◌, option_and_then}
use Rattle.std.specs.List.{flat_map}
use Rattle.std.proofs.lemmas.Bool.{cond-true, cond-false, cases_Bool, eqb-true, eqb-false, ne_eqb, ltb-false, le-ltb}
use Rattle.std.proofs.lemmas.Option.{none-some, same_Some, option_and_then_some}
use Rattle.std.proofs.lemmas.List.{take-append-drop, length-take, length-drop, drop_at, append_assoc, nil_from_length}
use Rattle.rtcp_compound.specs.Grammar.{Item, item_bytes, AreItems, Chunk, chunk_bytes, IsChunk, AreChunks, HasChunks}
use Rattle.rtcp_compound.specs.Reading.{after_items, after_chunk, after_chunks}

-- the rest of a text, items, and the zero byte before the rest
pub record TakesItems (n : ℕ) (bytes rest : List ℕ) : Type 0 where
  pub text : List ℕ
  pub items : List Item
  pub text_length : length text ≡ n
  pub each : AreItems items
  pub bytes_are : bytes ≡ text ++ (flat_map item_bytes items ++ (0 ∷ rest))

ended : (k : ℕ) (bs rest : List ℕ) → k ≡ 0 → bs ≡ rest → TakesItems 0 (k ∷ bs) rest
ended k bs rest z e = record { text = []; items = []; text_length = refl; each = tt; bytes_are = ap₂ (λ (x : ℕ) (y : List ℕ). x ∷ y) z e }

one_item : (k len : ℕ) (bs rest : List ℕ) → (k ≡ 0 → ⊥) → TakesItems len bs rest → TakesItems 0 (k ∷ (len ∷ bs)) rest
one_item k len bs rest ne t = record {
  text = [];
  items = record { kind = k; text = t.text } ∷ t.items;
  text_length = refl;
  each = (omega arith, t.each);
  bytes_are = ap (λ y. k ∷ (len ∷ y)) (t.bytes_are ∙ sym (append_assoc t.text (flat_map item_bytes t.items) (0 ∷ rest)))
      ∙ ap (λ n. k ∷ (n ∷ ((t.text ++ flat_map item_bytes t.items) ++ (0 ∷ rest)))) (sym t.text_length);
}

pub items_take : (n : ℕ) (bytes rest : List ℕ) → after_items n bytes ≡ Some rest → TakesItems n bytes rest
items_take (suc n) [] rest e = absurd (none-some rest e)
items_take (suc n) (b ∷ bs) rest e =
    let t = items_take n bs rest e in
    record { text = b ∷ t.text; items = t.items; text_length = ap suc t.text_length; each = t.each; bytes_are = ap (λ y. b ∷ y) t.bytes_are }
items_take zero [] rest e = absurd (none-some rest e)
items_take zero (k ∷ []) rest e = elim (cases_Bool (k == 0)) [
  | inl z ↦ ended k [] rest (eqb-true k 0 z) (same_Some _ _ (sym (cond-true (k == 0) (Some []) None z) ∙ e))
  | inr z ↦ absurd (none-some rest (sym (cond-false (k == 0) (Some []) None z) ∙ e))
]
items_take zero (k ∷ (len ∷ bs)) rest e = elim (cases_Bool (k == 0)) [
  | inl z ↦ ended k (len ∷ bs) rest (eqb-true k 0 z) (same_Some _ _ (sym (cond-true (k == 0) (Some (len ∷ bs)) (after_items len bs) z) ∙ e))
  | inr z ↦ one_item k len bs rest (eqb-false k 0 z) (items_take len bs rest (sym (cond-false (k == 0) (Some (len ∷ bs)) (after_items len bs) z) ∙ e))
]

text_skip : (text bs : List ℕ) → after_items (length text) (text ++ bs) ≡ after_items 0 bs
text_skip [] bs = refl
text_skip (t ∷ ts) bs = text_skip ts bs

zero_ends : (rest : List ℕ) → after_items 0 (0 ∷ rest) ≡ Some rest
zero_ends [] = refl
zero_ends (b ∷ bs) = refl

pub items_again : (items : List Item) (rest : List ℕ) → AreItems items → after_items 0 (flat_map item_bytes items ++ (0 ∷ rest)) ≡ Some rest
items_again [] rest h = zero_ends rest
items_again (i ∷ is) rest h =
    let positive : 0 < i.kind = h.0 in
    cond-false (i.kind == 0) _ _ (ne_eqb i.kind 0 (λ z. absurd (omega arith)))
    ∙ ap (after_items (length i.text)) (append_assoc i.text (flat_map item_bytes is) (0 ∷ rest))
    ∙ text_skip i.text (flat_map item_bytes is ++ (0 ∷ rest))
    ∙ items_again is rest h.1

-- a chunk at the front, and a rest of whole words
pub record TakesChunk (bytes rest : List ℕ) : Type 0 where
  pub chunk : Chunk
  pub is : IsChunk chunk
  pub bytes_are : bytes ≡ chunk_bytes chunk ++ rest
  pub rest_whole : length rest % 4 ≡ 0

chunk_joined : (source front filling rest : List ℕ) → source ++ (front ++ (0 ∷ (filling ++ rest))) ≡ (source ++ (front ++ (0 ∷ filling))) ++ rest
chunk_joined source front filling rest = ap (λ y. source ++ y) (sym (append_assoc front (0 ∷ filling) rest)) ∙ sym (append_assoc source (front ++ (0 ∷ filling)) rest)

rest_of_words : (r : ℕ) → (r - r % 4) % 4 ≡ 0
rest_of_words r = omega arith

front_of_words : (a b c : ℕ) → a ≡ b + c → a % 4 ≡ 0 → c % 4 ≡ 0 → b % 4 ≡ 0
front_of_words a b c e p q = omega arith

chunk_made : (body front r : List ℕ) (items : List Item) → length body % 4 ≡ 0 → 4 ≤ length body → AreItems items → drop 4 body ≡ flat_map item_bytes items ++ (0 ∷ r) → TakesChunk body (drop (length r % 4) r)
chunk_made body front r items whole long each is =
    let k = length r % 4 in
    let chunk : Chunk = record { source = take 4 body; items = items; filling = take k r } in
    let bytes_are : body ≡ chunk_bytes chunk ++ drop k r =
    sym (take-append-drop 4 body) ∙ ap (λ y. take 4 body ++ y) (is ∙ ap (λ y. flat_map item_bytes items ++ (0 ∷ y)) (sym (take-append-drop k r)))
    ∙ chunk_joined (take 4 body) (flat_map item_bytes items) (take k r) (drop k r) in
    let rest_whole : length (drop k r) % 4 ≡ 0 = ap (λ (n : ℕ). n % 4) (length-drop k r) ∙ rest_of_words (length r) in
    record {
      chunk = chunk;
      is = record {
        source = simp length-take (omega arith);
        items = each;
        filling = simp length-take (omega arith);
        whole = front_of_words (length body) (length (chunk_bytes chunk)) (length (drop k r)) (ap length bytes_are ∙ length-append (chunk_bytes chunk) (drop k r)) whole rest_whole;
      };
      bytes_are = bytes_are;
      rest_whole = rest_whole;
    }

guard_some : {A : Type 0} (b : Bool) (o : Option A) (x : A) → cond b None o ≡ Some x → (b ≡ false) × (o ≡ Some x)
guard_some true o x e = absurd (none-some x e)
guard_some false o x e = (refl, e)

pub chunk_take : (body rest : List ℕ) → length body % 4 ≡ 0 → after_chunk body ≡ Some rest → TakesChunk body rest
unfolding after_chunk
chunk_take body rest whole e =
    let long = guard_some _ _ _ e in
    option_and_then_some _ (after_items 0 (drop 4 body)) rest long.1 (λ r is ends.
    let t = items_take 0 (drop 4 body) r is in
    let P : List ℕ → Type 0 = λ y. TakesChunk body y in
    let empty : t.text ≡ [] = nil_from_length t.text t.text_length in
    subst P (same_Some _ _ ends) (chunk_made body [] r t.items whole (ltb-false _ _ long.0) t.each (t.bytes_are ∙ ap (λ y. y ++ (flat_map item_bytes t.items ++ (0 ∷ r))) empty)))

filling_is : (a b : ℕ) → a < 4 → b % 4 ≡ 0 → (a + b) % 4 ≡ a
filling_is a b p q = omega arith

pub chunk_again : (c : Chunk) (rest : List ℕ) → IsChunk c → length rest % 4 ≡ 0 → after_chunk (chunk_bytes c ++ rest) ≡ Some rest
unfolding after_chunk
chunk_again c rest h whole =
    let front = flat_map item_bytes c.items in
    let tail = front ++ (0 ∷ (c.filling ++ rest)) in
    let bytes_are : chunk_bytes c ++ rest ≡ c.source ++ tail = sym (chunk_joined c.source front c.filling rest) in
    let source : length c.source ≡ 4 = h.source in
    let long : 4 ≤ length (c.source ++ tail) = omega (arith, length-append c.source tail) in
    let filling : length (c.filling ++ rest) % 4 ≡ length c.filling = ap (λ (n : ℕ). n % 4) (length-append c.filling rest) ∙ filling_is (length c.filling) (length rest) h.filling whole in
    ap after_chunk bytes_are
    ∙ cond-false (nat_lt (length (c.source ++ tail)) 4) _ _ (le-ltb _ _ long)
    ∙ ap (λ y. option_and_then (λ r. Some (drop (length r % 4) r)) (after_items 0 y)) (drop_at c.source tail 4 source)
    ∙ ap (option_and_then (λ r. Some (drop (length r % 4) r))) (items_again c.items (c.filling ++ rest) h.items)
    ∙ ap (λ n. Some (drop n (c.filling ++ rest))) filling
    ∙ ap Some (drop_at c.filling rest (length c.filling) refl)

more_chunks : (n : ℕ) (body rest : List ℕ) → TakesChunk body rest → HasChunks n rest → HasChunks (suc n) body
more_chunks n body rest t h = record {
  chunks = t.chunk ∷ h.chunks;
  extension = h.extension;
  count = ap suc h.count;
  each = (t.is, h.each);
  bytes_are = t.bytes_are ∙ ap (λ y. chunk_bytes t.chunk ++ y) h.bytes_are ∙ sym (append_assoc (chunk_bytes t.chunk) (flat_map chunk_bytes h.chunks) h.extension);
}

pub chunks_take : (n : ℕ) (body rest : List ℕ) → length body % 4 ≡ 0 → after_chunks n body ≡ Some rest → HasChunks n body
chunks_take zero body rest whole e = record { chunks = []; extension = body; count = refl; each = tt; bytes_are = refl }
chunks_take (suc n) body rest whole e = option_and_then_some _ (after_chunk body) rest e (λ r is ends.
    let t = chunk_take body r whole is in
    more_chunks n body r t (chunks_take n r rest t.rest_whole ends))

pub chunks_again : (chunks : List Chunk) (rest : List ℕ) → AreChunks chunks → length (flat_map chunk_bytes chunks ++ rest) % 4 ≡ 0 → after_chunks (length chunks) (flat_map chunk_bytes chunks ++ rest) ≡ Some rest
chunks_again [] rest each whole = refl
chunks_again (c ∷ cs) rest each whole =
    let behind = flat_map chunk_bytes cs ++ rest in
    let joined = append_assoc (chunk_bytes c) (flat_map chunk_bytes cs) rest in
    let is : IsChunk c = each.0 in
    let rest_whole : length behind % 4 ≡ 0 =
    front_of_words (length (flat_map chunk_bytes (c ∷ cs) ++ rest)) (length behind) (length (chunk_bytes c))
    (ap length joined ∙ length-append (chunk_bytes c) behind ∙ add_comm (length (chunk_bytes c)) (length behind)) whole is.whole in
    ap (λ y. option_and_then (after_chunks (length cs)) (after_chunk y)) joined
    ∙ ap (option_and_then (after_chunks (length cs))) (chunk_again c behind is rest_whole)
    ∙ chunks_again cs rest each.1 rest_whole
