-- The pairs that two lists of requests share, and the entries that have them.
use Rattle.std.proofs.Common.{◌≡◌, ◌==◌, Bool, true, false, if◌then◌else◌, ℕ, zero, suc, ◌+◌, ◌-◌, ◌<◌, ◌≤◌, List, [], ◌∷◌, ◌++◌, length, get_or, set, take, drop, refl, sym, ap, ◌∙◌, subst, arith}
use Rattle.std.specs.Prelude.{All, AllPairs}
use Rattle.std.specs.List.{remove_range}
use Rattle.std.proofs.Math.Seq.{drop-append-add, drop-cons, drop-nil}
use Rattle.std.proofs.lemmas.List.{take-append-drop, length-take-le, length-drop, length-map, take-map, drop-map, map-set, drop_all, take_more, take_more_set, drop-set-lt, get_or-drop, get_or_read}
use Rattle.tmmbr_tuple.specs.Tuple.{rate_of}
use Rattle.tmmbr_tuple.specs.RatePair.{RatePair, pair_of}
use Rattle.rate_cert.specs.declared.request.Request.{Request}
use Rattle.rate_cert.specs.declared.certificate.Kept.{Kept}
use Rattle.bounding_set.specs.Announced.{Follows}
use Rattle.bounding_set.specs.Certificate.{End, start_end, right_end, crossing_of, pair_between, pairs_from, pairs_with_stop, kept_pairs}
use Rattle.bounding_set.specs.Kept.{pairs_of}

-- what is taken from before a place
pub take_before : {X : Type 0} (low i : ℕ) (xs ys : List X) → low ≤ i → i ≤ length xs → take low (take i xs ++ ys) ≡ take low xs
take_before zero i xs ys before within = refl
take_before (suc low) zero xs ys before within = absurd (omega (arith, before))
take_before (suc low) (suc i) [] ys before within = absurd (omega (arith, within))
take_before (suc low) (suc i) (x ∷ xs) ys before within = ap (λ zs. x ∷ zs) (take_before low i xs ys (omega (arith, before)) (omega (arith, within)))

-- what is left after a place
pub drop_behind : {X : Type 0} (i n m : ℕ) (xs ys : List X) → i ≤ length xs → m ≡ i + n → drop m (take i xs ++ ys) ≡ drop n ys
drop_behind i n m xs ys within is =
    let whole : m ≡ length (take i xs) + n = omega (arith, length-take-le i xs within, is) in
    ap (λ k. drop k (take i xs ++ ys)) whole ∙ drop-append-add (take i xs) ys n

drop_twice : {X : Type 0} (n m k : ℕ) (xs : List X) → k ≡ n + m → drop m (drop n xs) ≡ drop k xs
drop_twice zero m k xs is = ap (λ j. drop j xs) (omega (arith, is))
drop_twice (suc n) m k [] is = drop-nil m ∙ sym (drop-nil k)
drop_twice (suc n) m zero (x ∷ xs) is = absurd (omega (arith, is))
drop_twice (suc n) m (suc k) (x ∷ xs) is = drop_twice n m k xs (omega (arith, is))

-- where a list is as long as another at its end, after some went from its middle
pub drop_after_range : {X : Type 0} (low high at : ℕ) (xs : List X) → low ≤ high → high ≤ length xs → low ≤ at
    → drop at (remove_range xs low high) ≡ drop (at + (high - low)) xs
drop_after_range low high at xs rising within from =
    drop_behind low (at - low) at xs (drop high xs) (omega (arith, rising, within)) (omega (arith, from))
    ∙ drop_twice high (at - low) (at + (high - low)) xs (omega (arith, rising, from))

-- where two lists begin alike, their elements there are the same
first_same : {X : Type 0} (x y : X) (xs ys : List X) (n : ℕ) → take (suc n) (x ∷ xs) ≡ take (suc n) (y ∷ ys) → x ≡ y
first_same x y xs ys n same = ap (λ zs. get_or zs 0 x) same

rest_same : {X : Type 0} (x y : X) (xs ys : List X) (n : ℕ) → take (suc n) (x ∷ xs) ≡ take (suc n) (y ∷ ys) → take n xs ≡ take n ys
rest_same x y xs ys n same = ap (λ zs. drop 1 zs) same

-- a pair depends on its request and the two beside it: so those before the last of the same requests are the same
pairs_before : (left : End) (xs ys : List Request) (n : ℕ) → suc n ≤ length xs → suc n ≤ length ys → take (suc n) xs ≡ take (suc n) ys
    → take n (pairs_from left xs) ≡ take n (pairs_from left ys)
pairs_before left xs ys zero in_xs in_ys same = refl
pairs_before left [] ys (suc n) in_xs in_ys same = absurd (omega (arith, in_xs))
pairs_before left (x ∷ []) ys (suc n) in_xs in_ys same = absurd (omega (arith, in_xs))
pairs_before left (x ∷ x' ∷ xs) [] (suc n) in_xs in_ys same = absurd (omega (arith, in_ys))
pairs_before left (x ∷ x' ∷ xs) (y ∷ []) (suc n) in_xs in_ys same = absurd (omega (arith, in_ys))
pairs_before left (x ∷ x' ∷ xs) (y ∷ y' ∷ ys) (suc n) in_xs in_ys same =
    let behind = rest_same x y (x' ∷ xs) (y' ∷ ys) (suc n) same in
    let rest = pairs_before (crossing_of x x') (x' ∷ xs) (y' ∷ ys) n (omega (arith, in_xs)) (omega (arith, in_ys)) behind in
    let ours = take (suc n) (pairs_from left (x ∷ x' ∷ xs)) in
    subst (λ z. ours ≡ pair_between z left (crossing_of z y') ∷ take n (pairs_from (crossing_of z y') (y' ∷ ys)))
    (first_same x y (x' ∷ xs) (y' ∷ ys) (suc n) same)
    (subst (λ z. ours ≡ pair_between x left (crossing_of x z) ∷ take n (pairs_from (crossing_of x z) (y' ∷ ys)))
    (first_same x' y' xs ys n behind)
    (ap (λ ps. pair_between x left (crossing_of x x') ∷ ps) rest))

-- the pairs after the first of these requests
abbrev pairs_after_first : List Request → List RatePair
pairs_after_first [] = []
pairs_after_first (x ∷ xs) = pairs_from (right_end x xs) xs

pairs_behind : (left : End) (xs : List Request) (at : ℕ) → drop (suc at) (pairs_from left xs) ≡ pairs_after_first (drop at xs)
pairs_behind left [] zero = refl
pairs_behind left [] (suc at) = refl
pairs_behind left (x ∷ xs) zero = refl
pairs_behind left (x ∷ xs) (suc at) = pairs_behind (right_end x xs) xs at

pub length-pairs_from : (left : End) (xs : List Request) → length (pairs_from left xs) ≡ length xs
length-pairs_from left [] = refl
length-pairs_from left (x ∷ xs) = ap suc (length-pairs_from (right_end x xs) xs)

-- more than two requests are no stop with another request
pub pairs_of_many : (xs : List Request) → 2 < length xs → kept_pairs xs ≡ pairs_from start_end xs
pairs_of_many [] many = absurd (omega (arith, many))
pairs_of_many (x ∷ []) many = absurd (omega (arith, many))
pairs_of_many (x ∷ y ∷ []) many = absurd (omega (arith, many))
pairs_of_many (x ∷ y ∷ z ∷ zs) many = refl

-- one pair fewer than requests is the same at the beginning, and at the end
pub same_beginning : (xs ys : List Request) (n low : ℕ) → 2 < length xs → n ≤ length xs → n ≤ length ys → take n xs ≡ take n ys → suc low ≡ n
    → take low (kept_pairs xs) ≡ take low (pairs_from start_end ys)
same_beginning xs ys n low many in_xs in_ys same fewer =
    ap (take low) (pairs_of_many xs many)
    ∙ pairs_before start_end xs ys low (omega (arith, fewer, in_xs)) (omega (arith, fewer, in_ys)) (subst (λ k. take k xs ≡ take k ys) (sym fewer) same)

pub same_end : (xs ys : List Request) (n behind : ℕ) → 2 < length xs → n ≤ length xs → n ≤ length ys
    → drop (length xs - n) xs ≡ drop (length ys - n) ys → suc behind ≡ n
    → drop (length xs - behind) (kept_pairs xs) ≡ drop (length ys - behind) (pairs_from start_end ys)
same_end xs ys n behind many in_xs in_ys same fewer =
    let at_xs : length xs - behind ≡ suc (length xs - n) = omega (arith, fewer, in_xs) in
    let at_ys : length ys - behind ≡ suc (length ys - n) = omega (arith, fewer, in_ys) in
    ap (λ ps. drop (length xs - behind) ps) (pairs_of_many xs many)
    ∙ ap (λ k. drop k (pairs_from start_end xs)) at_xs
    ∙ pairs_behind start_end xs (length xs - n)
    ∙ ap pairs_after_first same
    ∙ sym (pairs_behind start_end ys (length ys - n))
    ∙ ap (λ k. drop k (pairs_from start_end ys)) (sym at_ys)

-- entries that stayed at the beginning and at the end have their pairs
pub mended_beginning : (old new : List Kept) (low : ℕ) (pairs : List RatePair) → take low new ≡ take low old
    → (0 < low → take low (pairs_of old) ≡ take low pairs) → take low (pairs_of new) ≡ take low pairs
mended_beginning old new zero pairs stay had = refl
mended_beginning old new (suc low) pairs stay had =
    take-map (λ (k : Kept). pair_of k.pair) (suc low) new
    ∙ ap pairs_of stay
    ∙ sym (take-map (λ (k : Kept). pair_of k.pair) (suc low) old)
    ∙ had (omega arith)

pub mended_end : (old new : List Kept) (behind n : ℕ) (pairs : List RatePair) → length new ≡ n → length pairs ≡ n
    → drop (n - behind) new ≡ drop (length old - behind) old
    → (0 < behind → drop (length old - behind) (pairs_of old) ≡ drop (n - behind) pairs)
    → drop (n - behind) (pairs_of new) ≡ drop (n - behind) pairs
mended_end old new zero n pairs is as_many stay had =
    drop_all (n - 0) (pairs_of new) (omega (arith, is, length-map new (λ (k : Kept). pair_of k.pair)))
    ∙ sym (drop_all (n - 0) pairs (omega (arith, as_many)))
mended_end old new (suc behind) n pairs is as_many stay had =
    drop-map (λ (k : Kept). pair_of k.pair) (n - suc behind) new
    ∙ ap pairs_of stay
    ∙ sym (drop-map (λ (k : Kept). pair_of k.pair) (length old - suc behind) old)
    ∙ had (omega arith)

-- the requests from a place on
from_place : (xs : List Request) (at behind : ℕ) (x : Request) → behind ≡ suc at → at < length xs → x ≡ get_or xs at x → drop at xs ≡ x ∷ drop behind xs
from_place xs at behind x is below read =
    drop-cons xs at x below
    ∙ ap (λ z. z ∷ drop (suc at) xs) (sym read)
    ∙ ap (λ k. x ∷ drop k xs) (sym is)

pub follow_behind : (xs : List Request) (at behind : ℕ) (x : Request) → AllPairs Follows xs → behind ≡ suc at → at < length xs → x ≡ get_or xs at x
    → All (Follows x) (drop behind xs)
follow_behind xs at behind x in_order is below read = λ k d there.
    let far : behind + k < length xs = omega (arith, there, length-drop behind xs) in
    subst (λ a. Follows a (get_or (drop behind xs) k d)) (sym (get_or_read xs at x below read d))
    (subst (Follows (get_or xs at d)) (sym (get_or-drop behind xs k d))
    (in_order at (behind + k) d (omega (arith, is)) far))

-- the pairs from a place on begin at the right end of the line before
pub pairs_from_place : (xs : List Request) (at behind : ℕ) (x : Request) → behind ≡ suc at → at < length xs → x ≡ get_or xs at x
    → pairs_from (right_end x (drop behind xs)) (drop behind xs) ≡ drop behind (pairs_from start_end xs)
pairs_from_place xs at behind x is below read =
    sym (ap (λ k. drop k (pairs_from start_end xs)) is
    ∙ pairs_behind start_end xs at
    ∙ ap pairs_after_first (from_place xs at behind x is below read))

-- the pair at a place
pub pair_at : (xs : List Request) (left : End) (at behind : ℕ) (x : Request) (p : RatePair) → behind ≡ suc at → at < length xs → x ≡ get_or xs at x
    → pairs_from left (drop at xs) ≡ drop at (pairs_from start_end xs)
    → get_or (pairs_from start_end xs) at p ≡ pair_between x left (right_end x (drop behind xs))
pair_at xs left at behind x p is below read rest =
    let there : at + 0 ≡ at = omega arith in
    sym (ap (λ k. get_or (pairs_from start_end xs) k p) there)
    ∙ sym (get_or-drop at (pairs_from start_end xs) 0 p)
    ∙ sym (ap (λ ps. get_or ps 0 p) rest)
    ∙ ap (λ ys. get_or (pairs_from left ys) 0 p) (from_place xs at behind x is below read)

-- one entry more has its pair
pub one_more_pair : (kept : List Kept) (k : Kept) (at : ℕ) (pairs : List RatePair) → at < length kept → length kept ≡ length pairs
    → take at (pairs_of kept) ≡ take at pairs → pair_of k.pair ≡ get_or pairs at (pair_of k.pair)
    → take (at + 1) (pairs_of (set kept at k)) ≡ take (at + 1) pairs
one_more_pair kept k at pairs below as_many done is =
    let y = pair_of k.pair in
    let in_kept : at < length (pairs_of kept) = omega (arith, below, length-map kept (λ (e : Kept). pair_of e.pair)) in
    let in_pairs : at < length pairs = omega (arith, below, as_many) in
    ap (take (at + 1)) (map-set (λ (e : Kept). pair_of e.pair) kept at k)
    ∙ take_more_set (pairs_of kept) at y in_kept
    ∙ ap (λ ps. ps ++ y ∷ []) done
    ∙ ap (λ p. take at pairs ++ p ∷ []) is
    ∙ sym (take_more pairs at y in_pairs)

pub pairs_behind_same : (kept : List Kept) (k : Kept) (at high : ℕ) → at < high → drop high (pairs_of (set kept at k)) ≡ drop high (pairs_of kept)
pairs_behind_same kept k at high before =
    ap (drop high) (map-set (λ (e : Kept). pair_of e.pair) kept at k)
    ∙ drop-set-lt high (pairs_of kept) at (pair_of k.pair) before

-- one request more at the end of both lists
from_end : (xs : List Request) (n : ℕ) (x : Request) → n < length xs → x ≡ get_or xs (length xs - 1 - n) x
    → drop (length xs - (n + 1)) xs ≡ x ∷ drop (length xs - n) xs
from_end xs n x below read =
    let first : length xs - (n + 1) ≡ length xs - 1 - n = omega arith in
    ap (λ k. drop k xs) first
    ∙ from_place xs (length xs - 1 - n) (length xs - n) x (omega (arith, below)) (omega (arith, below)) read

pub one_more_behind : (xs ys : List Request) (n : ℕ) (x y : Request) → n < length xs → n < length ys
    → x ≡ get_or xs (length xs - 1 - n) x → y ≡ get_or ys (length ys - 1 - n) y → x ≡ y
    → drop (length xs - n) xs ≡ drop (length ys - n) ys
    → drop (length xs - (n + 1)) xs ≡ drop (length ys - (n + 1)) ys
one_more_behind xs ys n x y in_xs in_ys read_x read_y same behind =
    from_end xs n x in_xs read_x
    ∙ ap (λ zs. x ∷ zs) behind
    ∙ ap (λ z. z ∷ drop (length ys - n) ys) same
    ∙ sym (from_end ys n y in_ys read_y)

-- as many pairs as requests
if_two : (b : Bool) (ps qs : List RatePair) (n : ℕ) → length ps ≡ n → length qs ≡ n → length (if b then ps else qs) ≡ n
if_two true ps qs n is_ps is_qs = is_ps
if_two false ps qs n is_ps is_qs = is_qs

pub length-kept_pairs : (xs : List Request) → length (kept_pairs xs) ≡ length xs
length-kept_pairs [] = refl
length-kept_pairs (x ∷ []) = refl
length-kept_pairs (x ∷ y ∷ []) = if_two (rate_of x.tuple == 0) (pairs_with_stop (x ∷ y ∷ [])) (pairs_from start_end (x ∷ y ∷ [])) 2 refl refl
length-kept_pairs (x ∷ y ∷ z ∷ zs) = length-pairs_from start_end (x ∷ y ∷ z ∷ zs)

-- two lists that are the same before a place and from it on
pub same_parts : {X : Type 0} (xs ys : List X) (n m : ℕ) → n ≡ m → take n xs ≡ take n ys → drop m xs ≡ drop m ys → xs ≡ ys
same_parts xs ys n m is before behind =
    sym (take-append-drop n xs)
    ∙ ap (λ zs. zs ++ drop n xs) before
    ∙ ap (λ zs. take n ys ++ zs) (subst (λ k. drop k xs ≡ drop k ys) (sym is) behind)
    ∙ take-append-drop n ys

pub as_many_before : (kept : List Kept) (before : List Request) → pairs_of kept ≡ kept_pairs before → length kept ≡ length before
as_many_before kept before had = sym (length-map kept (λ (k : Kept). pair_of k.pair)) ∙ ap length had ∙ length-kept_pairs before

-- what the requests share, the entries have
pub shared_in_range : (kept : List Kept) (before : List Request) (shared : ℕ) → shared ≤ length before
    → (0 < length before → pairs_of kept ≡ kept_pairs before) → shared ≤ length kept
shared_in_range kept [] shared within had = omega (arith, within)
shared_in_range kept (x ∷ xs) shared within had = omega (arith, within, as_many_before kept (x ∷ xs) (had (omega arith)))
