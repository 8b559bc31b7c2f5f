-- Entries that stand one after the other, read from the front.
use Rattle.std.proofs.Common.{◌≡◌, ◌∙◌, ℕ, suc, ◌-◌, ◌/◌, ◌<◌, ◌≤◌, ℤ, List, [], ◌∷◌, length, take, drop, slice_index, sym, ap, arith, length-drop}
use Rattle.std.proofs.lemmas.List.{take_rest}
use Rattle.byteorder.specs.Endian.{big_number, twos_complement}
use Rattle.rtcp_compound.specs.declared.sizes.TheConstants.{BLOCK_BYTES}
use Rattle.rtcp_compound.specs.Content.{sources_in}
use Rattle.rtcp_compound.specs.Entries.{entries_from}
use Rattle.rtcp_compound.specs.Report.{ReportBlock, block_in, blocks_in}

quarter : (n : ℕ) → 4 ≤ n → n / 4 ≡ suc ((n - 4) / 4)
quarter n h = omega arith

pub sources_more : (bytes : List ℕ) → 4 ≤ length bytes → sources_in bytes ≡ big_number 4 bytes ∷ sources_in (drop 4 bytes)
unfolding sources_in
sources_more bytes h =
    ap (λ n. entries_from (big_number 4) 4 n bytes) (quarter (length bytes) h)
    ∙ ap (λ n. big_number 4 bytes ∷ entries_from (big_number 4) 4 (n / 4) (drop 4 bytes)) (sym (length-drop 4 bytes))

pub sources_none : (bytes : List ℕ) → length bytes < 4 → sources_in bytes ≡ []
unfolding sources_in
sources_none bytes h = let none : length bytes / 4 ≡ 0 = omega arith in ap (λ n. entries_from (big_number 4) 4 n bytes) none

-- a whole block at the front is one of the blocks
block_count : (n : ℕ) → BLOCK_BYTES ≤ n → n / BLOCK_BYTES ≡ suc ((n - BLOCK_BYTES) / BLOCK_BYTES)
block_count n h = omega arith

pub blocks_more : (bytes : List ℕ) → BLOCK_BYTES ≤ length bytes → blocks_in bytes ≡ block_in bytes ∷ blocks_in (drop BLOCK_BYTES bytes)
unfolding blocks_in
blocks_more bytes h =
    ap (λ n. entries_from block_in BLOCK_BYTES n bytes) (block_count (length bytes) h)
    ∙ ap (λ n. block_in bytes ∷ entries_from block_in BLOCK_BYTES (n / BLOCK_BYTES) (drop BLOCK_BYTES bytes)) (sym (length-drop BLOCK_BYTES bytes))

pub blocks_none : (bytes : List ℕ) → length bytes < BLOCK_BYTES → blocks_in bytes ≡ []
unfolding blocks_in
blocks_none bytes h = let none : length bytes / BLOCK_BYTES ≡ 0 = omega arith in ap (λ n. entries_from block_in BLOCK_BYTES n bytes) none

-- the number at a place
pub number_behind : (n k : ℕ) (bytes : List ℕ) → big_number n (take (length bytes - k) (drop k bytes)) ≡ big_number n (drop k bytes)
number_behind n k bytes = ap (big_number n) (take_rest bytes k)

pub same_block : (s s' f f' h h' j j' r r' d d' : ℕ) (l l' : ℤ) → s ≡ s' → f ≡ f' → l ≡ l' → h ≡ h' → j ≡ j' → r ≡ r' → d ≡ d'
    → ◌≡◌ {A = ReportBlock} (record { source = s; fraction = f; lost = l; highest = h; jitter = j; last_sr = r; delay = d })
    (record { source = s'; fraction = f'; lost = l'; highest = h'; jitter = j'; last_sr = r'; delay = d' })
same_block s s' f f' h h' j j' r r' d d' l l' a b c e g i k = cc

-- seven parts that were read at their places make the block
pub block_read : (bytes : List ℕ) (s f h j r d : ℕ) (l : ℤ) → s ≡ big_number 4 bytes → f ≡ slice_index bytes 4
    → l ≡ twos_complement 3 (big_number 3 (take (length bytes - 5) (drop 5 bytes)))
    → h ≡ big_number 4 (take (length bytes - 8) (drop 8 bytes)) → j ≡ big_number 4 (take (length bytes - 12) (drop 12 bytes))
    → r ≡ big_number 4 (take (length bytes - 16) (drop 16 bytes)) → d ≡ big_number 4 (take (length bytes - 20) (drop 20 bytes))
    → record { source = s; fraction = f; lost = l; highest = h; jitter = j; last_sr = r; delay = d } ≡ block_in bytes
unfolding block_in
block_read bytes s f h j r d l a b c e g i k =
    same_block _ _ _ _ _ _ _ _ _ _ _ _ _ _ a b (c ∙ ap (twos_complement 3) (number_behind 3 5 bytes))
    (e ∙ number_behind 4 8 bytes) (g ∙ number_behind 4 12 bytes) (i ∙ number_behind 4 16 bytes) (k ∙ number_behind 4 20 bytes)
