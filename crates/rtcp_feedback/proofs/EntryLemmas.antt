-- Entries, read one after the other.
use Rattle.std.proofs.Common.{◌≡◌, ◌∙◌, ℕ, suc, ◌*◌, ◌%◌, ◌<◌, List, [], ◌∷◌, ◌++◌, length, drop, refl, ap, ap₂, arith}
use Rattle.std.specs.List.{flat_map, All, IsSplitAt}
use Rattle.std.proofs.lemmas.List.Elements.{All-cons, All-nil}
use Rattle.byteorder.specs.Endian.{big_bytes, big_number}
use Rattle.rtcp_feedback.specs.declared.nack.Nack.{Nack}
use Rattle.rtcp_feedback.specs.declared.tmmb.TmmbrEntry.{TmmbrEntry}
use Rattle.rtcp_feedback.specs.Grammar.{nack_bytes, IsNack, entry_bytes, IsEntry}
use Rattle.rtcp_feedback.specs.Reading.{nacks_in, entries_in}
use Rattle.rtcp_feedback.proofs.NumberLemmas.{IsBytes, two_bytes, two_fit, two_again, four_bytes, four_fit, four_again}

all_tail : {X : Type 0} (P : X → Type 0) (x : X) (xs : List X) → All P (x ∷ xs) → All P xs
all_tail P x xs h = λ k d lt. h (suc k) d (omega arith)

-- ---- NACKs

pub nacks_next : (xs front back : List ℕ) (p q : ℕ) → IsSplitAt xs 4 front back → p ≡ big_number 2 front → q ≡ big_number 2 (drop 2 front)
    → nacks_in xs ≡ record { pid = p; blp = q } ∷ nacks_in back
nacks_next [] front back p q s hp hq = absurd (omega arith)
nacks_next (a ∷ []) front back p q s hp hq = absurd (omega arith)
nacks_next (a ∷ (b ∷ [])) front back p q s hp hq = absurd (omega arith)
nacks_next (a ∷ (b ∷ (c ∷ []))) front back p q s hp hq = absurd (omega arith)
nacks_next (a ∷ (b ∷ (c ∷ (d ∷ xs)))) front back p q s hp hq =
    let front_is : front ≡ a ∷ (b ∷ (c ∷ (d ∷ []))) = s.1 in
    let back_is : back ≡ xs = s.2 in
    let pid : p ≡ big_number 2 (a ∷ (b ∷ [])) = hp ∙ ap (big_number 2) front_is in
    let blp : q ≡ big_number 2 (c ∷ (d ∷ [])) = hq ∙ ap (λ (y : List ℕ). big_number 2 (drop 2 y)) front_is in
    rw (pid, blp, back_is) refl

pub nacks_end : (xs : List ℕ) → length xs < 4 → nacks_in xs ≡ []
nacks_end [] h = refl
nacks_end (a ∷ []) h = refl
nacks_end (a ∷ (b ∷ [])) h = refl
nacks_end (a ∷ (b ∷ (c ∷ []))) h = refl
nacks_end (a ∷ (b ∷ (c ∷ (d ∷ xs)))) h = absurd (omega arith)

pub nacks_bytes : (xs : List ℕ) → length xs % 4 ≡ 0 → IsBytes xs → flat_map nack_bytes (nacks_in xs) ≡ xs
nacks_bytes [] whole fit = refl
nacks_bytes (a ∷ []) whole fit = absurd (omega arith)
nacks_bytes (a ∷ (b ∷ [])) whole fit = absurd (omega arith)
nacks_bytes (a ∷ (b ∷ (c ∷ []))) whole fit = absurd (omega arith)
nacks_bytes (a ∷ (b ∷ (c ∷ (d ∷ xs)))) whole fit =
    ap₂ (λ (y z : List ℕ). (y ++ z) ++ flat_map nack_bytes (nacks_in xs)) (two_bytes a b (fit 0) (fit 1)) (two_bytes c d (fit 2) (fit 3))
    ∙ ap (λ (y : List ℕ). a ∷ (b ∷ (c ∷ (d ∷ y)))) (nacks_bytes xs (omega arith) (λ k. fit (suc (suc (suc (suc k))))))

pub nacks_fit : (xs : List ℕ) → IsBytes xs → All IsNack (nacks_in xs)
nacks_fit [] fit = All-nil IsNack
nacks_fit (a ∷ []) fit = All-nil IsNack
nacks_fit (a ∷ (b ∷ [])) fit = All-nil IsNack
nacks_fit (a ∷ (b ∷ (c ∷ []))) fit = All-nil IsNack
nacks_fit (a ∷ (b ∷ (c ∷ (d ∷ xs)))) fit =
    All-cons IsNack (record { pid = big_number 2 (a ∷ (b ∷ [])); blp = big_number 2 (c ∷ (d ∷ [])) }) (nacks_in xs)
    (two_fit a b (fit 0) (fit 1), two_fit c d (fit 2) (fit 3)) (nacks_fit xs (λ k. fit (suc (suc (suc (suc k))))))

pub nacks_again : (es : List Nack) → All IsNack es → nacks_in (flat_map nack_bytes es) ≡ es
nacks_again [] h = refl
nacks_again (e ∷ es) h =
    let here : IsNack e = h 0 e (omega arith) in
    let pid : big_number 2 (big_bytes 2 e.pid ++ []) ≡ e.pid = two_again e.pid [] here.0 in
    let blp : big_number 2 (big_bytes 2 e.blp ++ []) ≡ e.blp = two_again e.blp [] here.1 in
    ap₂ (λ (p q : ℕ). record { pid = p; blp = q } ∷ nacks_in (flat_map nack_bytes es)) pid blp
    ∙ ap (λ (y : List Nack). e ∷ y) (nacks_again es (all_tail IsNack e es h))

pub length-nacks : (es : List Nack) → length (flat_map nack_bytes es) ≡ 4 * length es
length-nacks [] = refl
length-nacks (e ∷ es) = let rest = length-nacks es in omega arith

-- ---- TMMBRs and TMMBNs

pub entries_next : (xs front back : List ℕ) (s w : ℕ) → IsSplitAt xs 8 front back → s ≡ big_number 4 front → w ≡ big_number 4 (drop 4 front)
    → entries_in xs ≡ record { ssrc = record { 0 = s }; word = w } ∷ entries_in back
entries_next [] front back s w t hs hw = absurd (omega arith)
entries_next (a ∷ []) front back s w t hs hw = absurd (omega arith)
entries_next (a ∷ (b ∷ [])) front back s w t hs hw = absurd (omega arith)
entries_next (a ∷ (b ∷ (c ∷ []))) front back s w t hs hw = absurd (omega arith)
entries_next (a ∷ (b ∷ (c ∷ (d ∷ [])))) front back s w t hs hw = absurd (omega arith)
entries_next (a ∷ (b ∷ (c ∷ (d ∷ (e ∷ []))))) front back s w t hs hw = absurd (omega arith)
entries_next (a ∷ (b ∷ (c ∷ (d ∷ (e ∷ (f ∷ [])))))) front back s w t hs hw = absurd (omega arith)
entries_next (a ∷ (b ∷ (c ∷ (d ∷ (e ∷ (f ∷ (g ∷ []))))))) front back s w t hs hw = absurd (omega arith)
entries_next (a ∷ (b ∷ (c ∷ (d ∷ (e ∷ (f ∷ (g ∷ (h ∷ xs)))))))) front back s w t hs hw =
    let front_is : front ≡ a ∷ (b ∷ (c ∷ (d ∷ (e ∷ (f ∷ (g ∷ (h ∷ []))))))) = t.1 in
    let back_is : back ≡ xs = t.2 in
    let ssrc : s ≡ big_number 4 (a ∷ (b ∷ (c ∷ (d ∷ [])))) = hs ∙ ap (big_number 4) front_is in
    let word : w ≡ big_number 4 (e ∷ (f ∷ (g ∷ (h ∷ [])))) = hw ∙ ap (λ (y : List ℕ). big_number 4 (drop 4 y)) front_is in
    rw (ssrc, word, back_is) refl

pub entries_end : (xs : List ℕ) → length xs < 8 → entries_in xs ≡ []
entries_end [] h = refl
entries_end (a ∷ []) h = refl
entries_end (a ∷ (b ∷ [])) h = refl
entries_end (a ∷ (b ∷ (c ∷ []))) h = refl
entries_end (a ∷ (b ∷ (c ∷ (d ∷ [])))) h = refl
entries_end (a ∷ (b ∷ (c ∷ (d ∷ (e ∷ []))))) h = refl
entries_end (a ∷ (b ∷ (c ∷ (d ∷ (e ∷ (f ∷ [])))))) h = refl
entries_end (a ∷ (b ∷ (c ∷ (d ∷ (e ∷ (f ∷ (g ∷ []))))))) h = refl
entries_end (a ∷ (b ∷ (c ∷ (d ∷ (e ∷ (f ∷ (g ∷ (i ∷ xs)))))))) h = absurd (omega arith)

pub entries_bytes : (xs : List ℕ) → length xs % 8 ≡ 0 → IsBytes xs → flat_map entry_bytes (entries_in xs) ≡ xs
entries_bytes [] whole fit = refl
entries_bytes (a ∷ []) whole fit = absurd (omega arith)
entries_bytes (a ∷ (b ∷ [])) whole fit = absurd (omega arith)
entries_bytes (a ∷ (b ∷ (c ∷ []))) whole fit = absurd (omega arith)
entries_bytes (a ∷ (b ∷ (c ∷ (d ∷ [])))) whole fit = absurd (omega arith)
entries_bytes (a ∷ (b ∷ (c ∷ (d ∷ (e ∷ []))))) whole fit = absurd (omega arith)
entries_bytes (a ∷ (b ∷ (c ∷ (d ∷ (e ∷ (f ∷ [])))))) whole fit = absurd (omega arith)
entries_bytes (a ∷ (b ∷ (c ∷ (d ∷ (e ∷ (f ∷ (g ∷ []))))))) whole fit = absurd (omega arith)
entries_bytes (a ∷ (b ∷ (c ∷ (d ∷ (e ∷ (f ∷ (g ∷ (h ∷ xs)))))))) whole fit =
    ap₂ (λ (y z : List ℕ). (y ++ z) ++ flat_map entry_bytes (entries_in xs)) (four_bytes a b c d (fit 0) (fit 1) (fit 2) (fit 3)) (four_bytes e f g h (fit 4) (fit 5) (fit 6) (fit 7))
    ∙ ap (λ (y : List ℕ). a ∷ (b ∷ (c ∷ (d ∷ (e ∷ (f ∷ (g ∷ (h ∷ y)))))))) (entries_bytes xs (omega arith) (λ k. fit (suc (suc (suc (suc (suc (suc (suc (suc k))))))))))

pub entries_fit : (xs : List ℕ) → IsBytes xs → All IsEntry (entries_in xs)
entries_fit [] fit = All-nil IsEntry
entries_fit (a ∷ []) fit = All-nil IsEntry
entries_fit (a ∷ (b ∷ [])) fit = All-nil IsEntry
entries_fit (a ∷ (b ∷ (c ∷ []))) fit = All-nil IsEntry
entries_fit (a ∷ (b ∷ (c ∷ (d ∷ [])))) fit = All-nil IsEntry
entries_fit (a ∷ (b ∷ (c ∷ (d ∷ (e ∷ []))))) fit = All-nil IsEntry
entries_fit (a ∷ (b ∷ (c ∷ (d ∷ (e ∷ (f ∷ [])))))) fit = All-nil IsEntry
entries_fit (a ∷ (b ∷ (c ∷ (d ∷ (e ∷ (f ∷ (g ∷ []))))))) fit = All-nil IsEntry
entries_fit (a ∷ (b ∷ (c ∷ (d ∷ (e ∷ (f ∷ (g ∷ (h ∷ xs)))))))) fit =
    All-cons IsEntry (record { ssrc = record { 0 = big_number 4 (a ∷ (b ∷ (c ∷ (d ∷ [])))) }; word = big_number 4 (e ∷ (f ∷ (g ∷ (h ∷ [])))) }) (entries_in xs)
    (four_fit a b c d (fit 0) (fit 1) (fit 2) (fit 3), four_fit e f g h (fit 4) (fit 5) (fit 6) (fit 7)) (entries_fit xs (λ k. fit (suc (suc (suc (suc (suc (suc (suc (suc k))))))))))

pub entries_again : (es : List TmmbrEntry) → All IsEntry es → entries_in (flat_map entry_bytes es) ≡ es
entries_again [] h = refl
entries_again (e ∷ es) h =
    let here : IsEntry e = h 0 e (omega arith) in
    let ssrc : big_number 4 (big_bytes 4 e.ssrc.0 ++ []) ≡ e.ssrc.0 = four_again e.ssrc.0 [] here.0 in
    let word : big_number 4 (big_bytes 4 e.word ++ []) ≡ e.word = four_again e.word [] here.1 in
    ap₂ (λ (s w : ℕ). record { ssrc = record { 0 = s }; word = w } ∷ entries_in (flat_map entry_bytes es)) ssrc word
    ∙ ap (λ (y : List TmmbrEntry). e ∷ y) (entries_again es (all_tail IsEntry e es h))

pub length-entries : (es : List TmmbrEntry) → length (flat_map entry_bytes es) ≡ 8 * length es
length-entries [] = refl
length-entries (e ∷ es) = let rest = length-entries es in omega arith
