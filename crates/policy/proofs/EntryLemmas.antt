-- An entry that is written for some numbers names just these.
use Rattle.std.proofs.Common.{◌≡◌, ◌==◌, ◌∙◌, ℕ, ◌-◌, ◌^◌, ◌<◌, ◌≤◌, ◌≢◌, inl, inr, Bool, true, false, List, [], ◌∷◌, refl, sym, ap, arith, max}
use Rattle.std.specs.Prelude.{◌||◌, bit_or, nat_lt, Some, if◌then◌else◌}
use Rattle.std.specs.List.{list_any}
use Rattle.std.proofs.lemmas.Bool.{cases_Bool, eqb-true}
use Rattle.std.proofs.lemmas.Bool.Decides.{nat_tests}
use Rattle.std.proofs.lemmas.Nat.Bits.{bit_at_or, bit_at-zero, bit_at-lt, bit_at-pow_same, bit_at-pow_other}
use Rattle.std.specs.Int.{bit_at}
use Rattle.rtcp_feedback.specs.Nack.{is_set}
use Rattle.policy.specs.Nacks.{NamesJust, behind_by, bit_behind, entry_from}

or_false : (x : Bool) → (x || false) ≡ x
or_false true = refl
or_false false = refl

or_true : (x : Bool) → (x || true) ≡ true
or_true true = refl
or_true false = refl

or_assoc : (x y z : Bool) → ((x || y) || z) ≡ (x || (y || z))
or_assoc true y z = refl
or_assoc false y z = refl

-- the bit for a number that stands so far after the first one
abbrev bit_for : ℕ → ℕ
bit_for d = if (d == 0) || nat_lt 16 d then 0 else 2 ^ (d - 1)

bit_there : (d : ℕ) → 1 ≤ d → d ≤ 16 → bit_for d ≡ 2 ^ (d - 1)
bit_there d low high = grind (arith, nat_tests)

bit_same : (d i : ℕ) → d ≡ i → 1 ≤ i → i ≤ 16 → bit_at (bit_for d) (i - 1) ≡ 1
bit_same d i same low high =
    let there : bit_for d ≡ 2 ^ (i - 1) = bit_there d (omega arith) (omega arith) ∙ ap (λ (n : ℕ). 2 ^ (n - 1)) same in
    ap (λ (x : ℕ). bit_at x (i - 1)) there ∙ bit_at-pow_same (i - 1)

bit_other : (d i : ℕ) → (d ≡ i → ⊥) → 1 ≤ i → i ≤ 16 → bit_at (bit_for d) (i - 1) ≡ 0
bit_other d i other low high =
    elim (cases_Bool ((d == 0) || nat_lt 16 d)) [
      | inl none ↦ ap (λ (t : Bool). bit_at (if t then 0 else 2 ^ (d - 1)) (i - 1)) none ∙ bit_at-zero (i - 1)
      | inr there ↦
          let some : 1 ≤ d = grind (arith, nat_tests) in
          let apart : i - 1 ≢ d - 1 = λ e. other (omega arith) in
          ap (λ (t : Bool). bit_at (if t then 0 else 2 ^ (d - 1)) (i - 1)) there ∙ bit_at-pow_other (d - 1) (i - 1) apart
    ]

one_wins : (v x : ℕ) → v < 2 → x ≡ 1 → (max v x == 1) ≡ true
one_wins v x small one = let is : max v x ≡ 1 = omega arith in ap (λ (n : ℕ). n == 1) is

none_wins : (v x : ℕ) → x ≡ 0 → (max v x == 1) ≡ (v == 1)
none_wins v x zero = let is : max v x ≡ v = omega arith in ap (λ (n : ℕ). n == 1) is

-- the bits with the one for a number more
bit_more : (b d i : ℕ) → 1 ≤ i → i ≤ 16 → is_set (bit_or b (bit_for d)) i ≡ (is_set b i || (d == i))
bit_more b d i low high =
    let both : is_set (bit_or b (bit_for d)) i ≡ (max (bit_at b (i - 1)) (bit_at (bit_for d) (i - 1)) == 1) = ap (λ (n : ℕ). n == 1) (bit_at_or b (bit_for d) (i - 1)) in
    elim (cases_Bool (d == i)) [
      | inl same ↦
          both ∙ one_wins (bit_at b (i - 1)) (bit_at (bit_for d) (i - 1)) (bit_at-lt b (i - 1)) (bit_same d i (eqb-true d i same) low high)
          ∙ sym (ap (λ (t : Bool). is_set b i || t) same ∙ or_true (is_set b i))
      | inr other ↦
          both ∙ none_wins (bit_at b (i - 1)) (bit_at (bit_for d) (i - 1)) (bit_other d i (λ e. grind (arith, nat_tests)) low high)
          ∙ sym (ap (λ (t : Bool). is_set b i || t) other ∙ or_false (is_set b i))
    ]

-- what an entry comes to with these numbers
pub record Named (pid b : ℕ) (seqs : List ℕ) : Type 0 where
  pub blp : ℕ
  pub entry : entry_from (Some (record { pid = pid; blp = b })) seqs ≡ Some (record { pid = pid; blp = blp })
  pub each : (i : ℕ) → 1 ≤ i → i ≤ 16 → is_set blp i ≡ (is_set b i || list_any (λ other. behind_by pid other == i) seqs)

named : (pid b : ℕ) (seqs : List ℕ) → Named pid b seqs
named pid b [] = record { blp = b; entry = refl; each = λ i low high. sym (or_false (is_set b i)) }
named pid b (seq ∷ seqs) =
    let rest = named pid (bit_or b (bit_behind pid seq)) seqs in
    record {
      blp = rest.blp;
      entry = rest.entry;
      each = λ i low high.
          rest.each i low high
          ∙ ap (λ (t : Bool). t || list_any (λ other. behind_by pid other == i) seqs) (bit_more b (behind_by pid seq) i low high)
          ∙ or_assoc (is_set b i) (behind_by pid seq == i) (list_any (λ other. behind_by pid other == i) seqs);
    }

pub names_just : (seq : ℕ) (seqs : List ℕ) → NamesJust seq seqs
names_just seq seqs =
    let all = named seq 0 seqs in
    record {
      blp = all.blp;
      entry = all.entry;
      each = λ i low high.
          all.each i low high
          ∙ ap (λ (n : ℕ). (n == 1) || list_any (λ other. behind_by seq other == i) seqs) (bit_at-zero (i - 1));
    }
