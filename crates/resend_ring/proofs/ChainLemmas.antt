-- What heads and links lead to.
use Rattle.std.proofs.Common.{◌≡◌, ◌≢◌, ℕ, zero, suc, ◌+◌, ◌-◌, ◌*◌, ◌<◌, ◌≤◌, List, [], ◌∷◌, length, get_or, sym, ap, ◌∙◌, inl, inr, subst, arith}
use Rattle.std.specs.Prelude.{◌%◌, ◌/◌, ◌==◌, ◌⊎◌, Bool, true, false, slice_get, None, Some}
use Rattle.std.specs.List.{position_or_len}
use Rattle.std.proofs.lemmas.Bool.{cases_lt}
use Rattle.std.proofs.lemmas.Bool.Decides.{nat_tests}
use Rattle.std.proofs.lemmas.Option.{slice_get_past, slice_get_cases, get_or_from_slice_get}
use Rattle.std.proofs.lemmas.List.{length-map, get_or-map, get_or_default}
use Rattle.std.proofs.lemmas.List.Sums.{position_or_len_is, fails_before_first, passes_at_first}
use Rattle.resend_ring.specs.declared.packets.TheConstants.{SEQ_CYCLE}
use Rattle.resend_ring.specs.declared.chains.TheConstants.{MAX_CHAIN, MANY_CHAINS}
use Rattle.resend_ring.specs.Chains.{sequence_numbers, IsChainCount, IsLatest, IsHead, AreHeads}

-- ---- numbers

-- the first place with such a number, if there is one
pub record IsFirst (f : ℕ → ℕ) (n : ℕ) (seqs : List ℕ) (back : ℕ) : Type 0 where
  pub inside : back < length seqs
  pub here : f (get_or seqs back 0) ≡ n
  pub before : (k : ℕ) → k < back → f (get_or seqs k 0) ≢ n

pub first_with : (f : ℕ → ℕ) (n : ℕ) (seqs : List ℕ)
    → ((k : ℕ) → k < length seqs → f (get_or seqs k 0) ≢ n) ⊎ ((back : ℕ) × IsFirst f n seqs back)
first_with f n seqs =
    let p : ℕ → Bool = λ s. f s == n in
    elim (cases_lt (position_or_len p seqs) (length seqs)) [
      | inl less ↦ inr (
        position_or_len p seqs,
        record {
          inside = less;
          here = equal (f (get_or seqs (position_or_len p seqs) 0)) n (passes_at_first p seqs 0 less);
          before = λ k below. apart (f (get_or seqs k 0)) n (fails_before_first p seqs k 0 below);
        },
      )
      | inr more ↦ inl (λ k inside. apart (f (get_or seqs k 0)) n (fails_before_first p seqs k 0 (omega arith)))
    ]
  where
    equal : (a b : ℕ) → (a == b) ≡ true → a ≡ b
    equal a b is = grind (arith, nat_tests)

    apart : (a b : ℕ) → (a == b) ≡ false → a ≢ b
    apart a b is = grind (arith, nat_tests)

pub number_at : {T : Type 0} (packets : List (ℕ × T)) (k : ℕ) (x : ℕ × T) → Some x ≡ slice_get packets k
    → (k < length (sequence_numbers packets)) × (get_or (sequence_numbers packets) k 0 ≡ x.0 % SEQ_CYCLE)
number_at {T} packets k x is = elim (cases_lt k (length packets)) [
  | inl less ↦ (
    rw length-map less,
    get_or-map (λ (p : ℕ × T). p.0 % SEQ_CYCLE) packets k x 0 less ∙ ap (λ (p : ℕ × T). p.0 % SEQ_CYCLE) (get_or_from_slice_get packets k x x (sym is)),
  )
  | inr more ↦ let e : Some x ≡ None = is ∙ slice_get_past packets k more in absurd cc
]

pub past_end : {X : Type 0} (xs : List X) (k : ℕ) → None ≡ slice_get xs k → length xs ≤ k
past_end xs k none = elim (slice_get_cases xs k).1 [
  | inl there ↦ let e : None ≡ Some there.0 = none ∙ there.2 in absurd cc
  | inr past ↦ past.0
]

pub number_past : {T : Type 0} (packets : List (ℕ × T)) (k : ℕ) → None ≡ slice_get packets k → length (sequence_numbers packets) ≤ k
number_past packets k none = rw length-map (past_end packets k none)

pub link_at : (links : List ℕ) (k link : ℕ) → Some link ≡ slice_get links k → link ≡ get_or links k 0
link_at links k link is = sym (get_or_from_slice_get links k link 0 (sym is))

pub number_fits : {T : Type 0} (packets : List (ℕ × T)) (k : ℕ) → get_or (sequence_numbers packets) k 0 < SEQ_CYCLE
number_fits [] k = omega arith
number_fits (p ∷ packets) zero = omega arith
number_fits (p ∷ packets) (suc k) = number_fits packets k

-- ---- heads

pub below_count : (chains seq : ℕ) → IsChainCount chains → seq % chains < chains
below_count chains seq count = elim count [
  | inl few ↦ subst (λ n. seq % n < n) (sym few) (omega arith)
  | inr many ↦ subst (λ n. seq % n < n) (sym many) (omega arith)
]

led_to : (clock head back place : ℕ) (heads : List ℕ) (chain : ℕ) → place < SEQ_CYCLE → chain < length heads
    → get_or heads chain 0 ≡ (clock + SEQ_CYCLE - place) % SEQ_CYCLE → head ≡ get_or heads chain head
    → back ≡ (clock + (SEQ_CYCLE - head)) % SEQ_CYCLE → place ≡ back
led_to clock head back place heads chain small inside is read back_is =
    let head_is : head ≡ (clock + SEQ_CYCLE - place) % SEQ_CYCLE = read ∙ (get_or_default heads chain head 0 inside ∙ is) in
    omega arith

module _ (clock seq chain head back : ℕ) (heads seqs : List ℕ) (leads : AreHeads clock heads seqs) (few : length seqs < SEQ_CYCLE)
    (count : IsChainCount (length heads)) (chain_is : chain ≡ seq % length heads) (read : head ≡ get_or heads chain head)
    (back_is : back ≡ (clock + (SEQ_CYCLE - head)) % SEQ_CYCLE) where
  head_at : (place : ℕ) → IsHead (length heads) seq seqs place → place ≡ back
  head_at place is =
      led_to clock head back place heads (seq % length heads) (omega (arith, is.inside)) (below_count (length heads) seq count)
      (leads seq place is) (subst (λ k. head ≡ get_or heads k head) chain_is read) back_is

  pub head_found : back < length seqs → get_or seqs back 0 % length heads ≡ seq % length heads → IsHead (length heads) seq seqs back
  head_found inside same = elim (first_with (λ s. s % length heads) (seq % length heads) seqs) [
    | inl none ↦ absurd (none back inside same)
    | inr first ↦
        let is : IsHead (length heads) seq seqs first.0 = record { inside = first.1.inside; on_chain = first.1.here; newest = first.1.before } in
        subst (IsHead (length heads) seq seqs) (head_at first.0 is) is
  ]

  pub head_missed : (back < length seqs → get_or seqs back 0 % length heads ≢ seq % length heads)
      → (k : ℕ) → k < length seqs → get_or seqs k 0 % length heads ≢ seq % length heads
  head_missed other = elim (first_with (λ s. s % length heads) (seq % length heads) seqs) [
    | inl none ↦ none
    | inr first ↦
        let is : IsHead (length heads) seq seqs first.0 = record { inside = first.1.inside; on_chain = first.1.here; newest = first.1.before } in
        let here = head_at first.0 is in
        absurd (other (subst (λ b. b < length seqs) here is.inside) (subst (λ b. get_or seqs b 0 % length heads ≡ seq % length heads) here is.on_chain))
  ]

-- the newest of a chain is the latest with its number
pub head_latest : (chains seq : ℕ) (seqs : List ℕ) (back : ℕ) → IsHead chains seq seqs back → IsLatest seqs back
head_latest chains seq seqs back is = λ k below same. is.newest k below (ap (λ s. s % chains) same ∙ is.on_chain)

-- ---- how long a chain is

-- how many of f 0 .. f (n - 1) are below back
pub below : (ℕ → ℕ) → ℕ → ℕ → ℕ
below f zero back = 0
below f (suc n) back = below f n back + (1 - (suc (f n) - back))

below-le : (f : ℕ → ℕ) (n back : ℕ) → below f n back ≤ n
unfolding below
below-le f zero back = omega arith
below-le f (suc n) back = omega (arith, below-le f n back)

below_mono : (f : ℕ → ℕ) (n a b : ℕ) → a ≤ b → below f n a ≤ below f n b
unfolding below
below_mono f zero a b h = omega arith
below_mono f (suc n) a b h = omega (arith, below_mono f n a b h)

below_step : (f : ℕ → ℕ) (n j a b : ℕ) → j < n → f j ≡ a → a < b → below f n a < below f n b
unfolding below
below_step f zero j a b inside is less = absurd (omega arith)
below_step f (suc n) j a b inside is less = elim (cases_lt j n) [
  | inl earlier ↦ omega (arith, below_step f n j a b earlier is less)
  | inr last ↦
      let at : f n ≡ a = ap f (omega arith) ∙ is in
      omega (arith, below_mono f n a b (omega arith))
]

-- where the latest packet with the j-th number of the chain of seq stands
pub place_on : ℕ → ℕ → List ℕ → ℕ → ℕ
place_on chains seq seqs j = position_or_len (λ s. s == j * chains + seq % chains) seqs

place_is : (chains seq : ℕ) (seqs : List ℕ) (j back : ℕ) → IsLatest seqs back → back < length seqs
    → get_or seqs back 0 ≡ j * chains + seq % chains → place_on chains seq seqs j ≡ back
unfolding place_on
place_is chains seq seqs j back latest inside is =
    position_or_len_is (λ s. s == j * chains + seq % chains) seqs back 0 (omega arith)
    (λ k earlier. apart (get_or seqs k 0) (j * chains + seq % chains) (λ same. latest k earlier (same ∙ sym is)))
    (λ _. equal (get_or seqs back 0) (j * chains + seq % chains) is)
  where
    equal : (a b : ℕ) → a ≡ b → (a == b) ≡ true
    equal a b is = grind (arith, nat_tests)

    apart : (a b : ℕ) → a ≢ b → (a == b) ≡ false
    apart a b is = grind (arith, nat_tests)

-- how many numbers of the chain of seq have a packet that is newer than the place
pub passed : ℕ → ℕ → List ℕ → ℕ → ℕ
passed chains seq seqs back = below (place_on chains seq seqs) MAX_CHAIN back

pub passed_more : (chains seq : ℕ) (seqs : List ℕ) (back next : ℕ) → chains ≡ MANY_CHAINS → get_or seqs back 0 < SEQ_CYCLE
    → IsLatest seqs back → back < length seqs → get_or seqs back 0 % chains ≡ seq % chains → back < next
    → passed chains seq seqs back < passed chains seq seqs next
unfolding passed
passed_more chains seq seqs back next many fits latest inside same less =
    let n = get_or seqs back 0 in
    let j = n / 1024 in
    let is : n ≡ j * chains + seq % chains = subst (λ c. n % c ≡ seq % c → n ≡ j * c + seq % c) (sym many) (λ e. omega arith) same in
    below_step (place_on chains seq seqs) MAX_CHAIN j back next (omega arith) (place_is chains seq seqs j back latest inside is) less

passed-le : (chains seq : ℕ) (seqs : List ℕ) (back : ℕ) → passed chains seq seqs back ≤ MAX_CHAIN
unfolding passed
passed-le chains seq seqs back = below-le (place_on chains seq seqs) MAX_CHAIN back

pub passed_few : (chains seq : ℕ) (seqs : List ℕ) (back : ℕ) → chains ≡ MANY_CHAINS → get_or seqs back 0 < SEQ_CYCLE
    → IsLatest seqs back → back < length seqs → get_or seqs back 0 % chains ≡ seq % chains → passed chains seq seqs back < MAX_CHAIN
passed_few chains seq seqs back many fits latest inside same =
    omega (arith, passed_more chains seq seqs back (suc back) many fits latest inside same (omega arith), passed-le chains seq seqs (suc back))
