-- The last packets of a list.
use Rattle.std.proofs.Common.{◌≡◌, ◌≢◌, ℕ, zero, suc, ◌+◌, ◌-◌, ◌<◌, ◌≤◌, List, [], ◌∷◌, ◌++◌, length, take, drop, get_or, refl, sym, ap, ◌∙◌, arith, length-append, length-drop, append_assoc, take-append-drop}
use Rattle.std.specs.Prelude.{◌==◌, ◌%◌, Bool, true, false, map, reverse, find, slice_get, None, Some, option_map}
use Rattle.std.specs.Option.{option_to_list}
use Rattle.std.specs.List.{position_or_len}
use Rattle.std.proofs.lemmas.Bool.Decides.{nat_tests}
use Rattle.std.proofs.lemmas.Option.{slice_get_past}
use Rattle.std.proofs.lemmas.List.{drop-append-le, drop-drop, drop_at, append-nil, map-append, take-map, length-map, length-reverse, reverse-append, reverse-reverse}
use Rattle.std.proofs.lemmas.List.Folds.{find_at}
use Rattle.std.proofs.lemmas.List.Sums.{position_or_len_is}
use Rattle.circular_buffer.specs.Buffer.{keep_last}
use Rattle.resend_ring.specs.declared.packets.TheConstants.{SEQ_CYCLE}
use Rattle.resend_ring.specs.Kept.{Kept, SentPacket, sent_packet, kept_in_turn, last_kept_with}
use Rattle.resend_ring.specs.Chains.{sequence_numbers, IsLatestWith}

-- what left before makes no difference to what is kept of the last ones
pub keep_last-append : {X : Type 0} (n : ℕ) (xs ys : List X) → keep_last n (keep_last n xs ++ ys) ≡ keep_last n (xs ++ ys)
keep_last-append n xs ys =
    let k = length xs - n in
    let within : k ≤ length xs = omega arith in
    let joined : drop k xs ++ ys ≡ drop k (xs ++ ys) = sym (drop-append-le k xs ys within) in
    let counted : length (drop k (xs ++ ys)) ≡ length xs + length ys - k = rw (length-drop k (xs ++ ys), length-append xs ys) refl in
    let places : k + (length xs + length ys - k - n) ≡ length xs + length ys - n = omega arith in
    ap (keep_last n) joined
    ∙ (ap (λ m. drop (m - n) (drop k (xs ++ ys))) counted
    ∙ (drop-drop (length xs + length ys - k - n) k (xs ++ ys)
    ∙ ap (λ m. drop m (xs ++ ys)) (places ∙ ap (λ m. m - n) (sym (length-append xs ys)))))

pub kept_in_turn-is : {T : Type 0} (capacity : ℕ) (before packets : List (SentPacket T))
    → kept_in_turn capacity (keep_last capacity before) packets ≡ keep_last capacity (before ++ packets)
kept_in_turn-is capacity before [] = ap (keep_last capacity) (sym (append-nil before))
kept_in_turn-is capacity before (p ∷ packets) =
    ap (λ items. kept_in_turn capacity items packets) (keep_last-append capacity before (p ∷ []))
    ∙ (kept_in_turn-is capacity (before ++ p ∷ []) packets ∙ ap (keep_last capacity) (append_assoc before (p ∷ []) packets))

drop_none : {X : Type 0} (n : ℕ) → drop {A = X} n [] ≡ []
drop_none zero = refl
drop_none (suc n) = refl

-- a new ring keeps the last packets of all
pub kept_from_none : {T : Type 0} (capacity : ℕ) (packets : List (SentPacket T)) → kept_in_turn capacity [] packets ≡ keep_last capacity packets
kept_from_none capacity packets =
    ap (λ items. kept_in_turn capacity items packets) (sym (drop_none (0 - capacity))) ∙ kept_in_turn-is capacity [] packets

-- ---- a list from the newest to the oldest

reverse_take : {X : Type 0} (n : ℕ) (xs : List X) → reverse (take n xs) ≡ keep_last n (reverse xs)
reverse_take n xs =
    let joined : reverse xs ≡ reverse (drop n xs) ++ reverse (take n xs) = ap reverse (sym (take-append-drop n xs)) ∙ reverse-append (take n xs) (drop n xs) in
    let counted : length (reverse (drop n xs)) ≡ length (reverse xs) - n =
    length-reverse (drop n xs) ∙ (length-drop n xs ∙ ap (λ m. m - n) (sym (length-reverse xs))) in
    sym (ap (drop (length (reverse xs) - n)) joined ∙ drop_at (reverse (drop n xs)) (reverse (take n xs)) (length (reverse xs) - n) counted)

pub numbers_taken : {T : Type 0} (n : ℕ) (packets : List (ℕ × T))
    → sequence_numbers (take n packets) ≡ take n (sequence_numbers packets)
numbers_taken {T} n packets = sym (take-map (λ (p : ℕ × T). p.0 % SEQ_CYCLE) n packets)

pub as_many_numbers : {T : Type 0} (packets : List (ℕ × T)) → length (sequence_numbers packets) ≡ length packets
as_many_numbers {T} packets = length-map packets (λ (p : ℕ × T). p.0 % SEQ_CYCLE)

abbrev pub kept_of : {T : Type 0} → ℕ → List (SentPacket T) → Kept T
kept_of capacity items = record { capacity = capacity; items = items }

pub same_kept : {T : Type 0} (capacity : ℕ) (items others : List (SentPacket T)) → items ≡ others
    → kept_of capacity items ≡ kept_of capacity others
same_kept {T} capacity items others same = ap (kept_of capacity) same

-- what is kept as a packet comes
pub kept_newest : {T : Type 0} (n : ℕ) (x : ℕ × T) (xs : List (ℕ × T))
    → reverse (map sent_packet (take n (x ∷ xs))) ≡ keep_last n (reverse (map sent_packet xs) ++ sent_packet x ∷ [])
kept_newest n x xs =
    ap reverse (sym (take-map sent_packet n (x ∷ xs)))
    ∙ (reverse_take n (map sent_packet (x ∷ xs)) ∙ ap (keep_last n) (reverse-append (sent_packet x ∷ []) (map sent_packet xs)))

-- what leaves
last_left : {T : Type 0} (n : ℕ) (xs : List (ℕ × T)) → length xs ≤ n + 1
    → reverse (map sent_packet (drop n xs)) ≡ option_to_list (option_map sent_packet (slice_get xs n))
last_left n [] few = ap (λ ys. reverse (map sent_packet ys)) (drop_none n)
last_left zero (x ∷ []) few = refl
last_left zero (x ∷ (y ∷ xs)) few = absurd (omega arith)
last_left (suc n) (x ∷ xs) few = last_left n xs (omega arith)

pub left_oldest : {T : Type 0} (n : ℕ) (x : ℕ × T) (xs : List (ℕ × T)) → length xs ≤ n
    → reverse (map sent_packet xs) ++ sent_packet x ∷ []
    ≡ option_to_list (option_map sent_packet (slice_get (x ∷ xs) n)) ++ reverse (map sent_packet (take n (x ∷ xs)))
left_oldest n x xs few =
    let all = x ∷ xs in
    let parts : map sent_packet all ≡ map sent_packet (take n all) ++ map sent_packet (drop n all) =
    ap (map sent_packet) (sym (take-append-drop n all)) ∙ map-append sent_packet (take n all) (drop n all) in
    sym (reverse-append (sent_packet x ∷ []) (map sent_packet xs))
    ∙ (ap reverse parts
    ∙ (reverse-append (map sent_packet (take n all)) (map sent_packet (drop n all))
    ∙ ap (λ ys. ys ++ reverse (map sent_packet (take n all))) (last_left n all (omega arith))))

-- ---- finding

abbrev has_seq : {T : Type 0} → ℕ → SentPacket T → Bool
has_seq seq p = p.number % SEQ_CYCLE == seq

number_of : {T : Type 0} (packets : List (ℕ × T)) (k : ℕ) (d : SentPacket T) → k < length packets
    → (get_or (map sent_packet packets) k d).number % SEQ_CYCLE ≡ get_or (sequence_numbers packets) k 0
number_of [] k d inside = absurd (omega arith)
number_of (p ∷ packets) zero d inside = refl
number_of (p ∷ packets) (suc k) d inside = number_of packets k d (omega arith)

sent_at : {T : Type 0} (packets : List (ℕ × T)) (k : ℕ) → slice_get (map sent_packet packets) k ≡ option_map sent_packet (slice_get packets k)
sent_at [] k = refl
sent_at (p ∷ packets) zero = refl
sent_at (p ∷ packets) (suc k) = sent_at packets k

has_own : {T : Type 0} (p : SentPacket T) (seq : ℕ) → p.number % SEQ_CYCLE ≡ seq → has_seq seq p ≡ true
has_own p seq same = grind (arith, nat_tests)

has_other : {T : Type 0} (p : SentPacket T) (seq : ℕ) → p.number % SEQ_CYCLE ≢ seq → has_seq seq p ≡ false
has_other p seq other = grind (arith, nat_tests)

latest_kept : {T : Type 0} (packets : List (ℕ × T)) (seq place : ℕ) → position_or_len (has_seq seq) (map sent_packet packets) ≡ place
    → last_kept_with (reverse (map sent_packet packets)) seq ≡ option_map (λ (p : SentPacket T). p.packet) (slice_get (map sent_packet packets) place)
latest_kept {T} packets seq place is =
    ap (λ items. option_map (λ (p : SentPacket T). p.packet) (find (has_seq seq) items)) (reverse-reverse (map sent_packet packets))
    ∙ ap (option_map (λ (p : SentPacket T). p.packet)) (find_at (has_seq seq) (map sent_packet packets) ∙ ap (slice_get (map sent_packet packets)) is)

pub found_latest : {T : Type 0} (packets : List (ℕ × T)) (seq back : ℕ) (x : ℕ × T) → IsLatestWith seq (sequence_numbers packets) back
    → Some x ≡ slice_get packets back → Some x.1 ≡ last_kept_with (reverse (map sent_packet packets)) seq
found_latest {T} packets seq back x is there =
    let nothing = sent_packet x in
    let items = map sent_packet packets in
    let within : back < length packets = omega (arith, is.inside, length-map packets (λ (p : ℕ × T). p.0 % SEQ_CYCLE)) in
    let place : position_or_len (has_seq seq) items ≡ back =
    position_or_len_is (has_seq seq) items back nothing (omega (arith, length-map packets sent_packet))
    (λ k below. has_other (get_or items k nothing) seq (λ same.
    is.latest k below (sym (number_of packets k nothing (omega arith)) ∙ (same ∙ sym is.number))))
    (λ _. has_own (get_or items back nothing) seq (number_of packets back nothing within ∙ is.number)) in
    let at : slice_get items back ≡ Some (sent_packet x) = sent_at packets back ∙ ap (option_map sent_packet) (sym there) in
    sym (latest_kept packets seq back place ∙ ap (option_map (λ (p : SentPacket T). p.packet)) at)

pub missed_latest : {T : Type 0} (packets : List (ℕ × T)) (seq : ℕ)
    → ((k : ℕ) → k < length (sequence_numbers packets) → get_or (sequence_numbers packets) k 0 ≢ seq)
    → None ≡ last_kept_with (reverse (map sent_packet packets)) seq
missed_latest {T} [] seq none = refl
missed_latest {T} (p ∷ packets) seq none = missed_in (p ∷ packets) (sent_packet p) seq none
  where
    missed_in : (packets : List (ℕ × T)) (nothing : SentPacket T) (seq : ℕ)
        → ((k : ℕ) → k < length (sequence_numbers packets) → get_or (sequence_numbers packets) k 0 ≢ seq)
        → None ≡ last_kept_with (reverse (map sent_packet packets)) seq
    missed_in packets nothing seq none =
        let items = map sent_packet packets in
        let counted : length (sequence_numbers packets) ≡ length packets = length-map packets (λ (p : ℕ × T). p.0 % SEQ_CYCLE) in
        let place : position_or_len (has_seq seq) items ≡ length items =
        position_or_len_is (has_seq seq) items (length items) nothing (omega arith)
        (λ k below.
        let within : k < length packets = omega (arith, length-map packets sent_packet) in
        has_other (get_or items k nothing) seq (λ same. none k (omega arith) (sym (number_of packets k nothing within) ∙ same)))
        (λ inside. absurd (omega arith)) in
        sym (latest_kept packets seq (length items) place ∙ ap (option_map (λ (p : SentPacket T). p.packet)) (slice_get_past items (length items) (omega arith)))
