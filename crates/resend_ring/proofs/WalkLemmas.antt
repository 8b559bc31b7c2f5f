-- What is known on the way along a chain.
use Rattle.std.proofs.Common.{◌≡◌, ◌≢◌, ℕ, ◌+◌, ◌<◌, ◌≤◌, List, length, get_or, refl, sym, ap, ◌∙◌, inl, inr, arith}
use Rattle.std.specs.Prelude.{◌%◌, Option, None, Some, MatchOption}
use Rattle.std.proofs.lemmas.Bool.{cases_lt}
use Rattle.resend_ring.specs.declared.packets.TheConstants.{SEQ_CYCLE}
use Rattle.resend_ring.specs.declared.chains.TheConstants.{MAX_CHAIN, MANY_CHAINS, FEW_CHAINS}
use Rattle.resend_ring.specs.Chains.{IsChainCount, IsLatest, IsHead, AreLinks}
use Rattle.resend_ring.proofs.ChainLemmas.{first_with, head_latest, passed, passed_more, passed_few}

-- So many turns led from the head to this place, by a link at newer. No packet with the number is newer.
pub record IsWalked (chains seq : ℕ) (links seqs : List ℕ) (head turns : ℕ) (newer : Option ℕ) (back : ℕ) : Type 0 where
  pub newer_leads : MatchOption newer (back ≡ head) (λ newer. IsLatest seqs newer
      × (get_or seqs newer 0 % chains ≡ seq % chains) × (newer + get_or links newer 0 ≡ back))
  pub latest : back < length seqs → IsLatest seqs back
  pub on_chain : back < length seqs → get_or seqs back 0 % chains ≡ seq % chains
  pub not_passed : (k : ℕ) → IsLatest seqs k → k < length seqs → get_or seqs k 0 ≡ seq → back ≤ k
  pub turns_few : turns ≤ back
  pub turns_passed : chains ≡ MANY_CHAINS → turns ≤ passed chains seq seqs back

module _ (chains seq : ℕ) (links seqs : List ℕ) (head : ℕ) where
  pub walked_none : IsHead chains seq seqs head → IsWalked chains seq links seqs head 0 None head
  walked_none is = record {
    newer_leads = refl;
    latest = λ inside. head_latest chains seq seqs head is;
    on_chain = λ inside. is.on_chain;
    not_passed = λ k latest inside same. elim (cases_lt k head) [
      | inl less ↦ absurd (is.newest k less (ap (λ s. s % chains) same))
      | inr more ↦ more
    ];
    turns_few = omega arith;
    turns_passed = λ many. omega arith;
  }

  module _ (turns : ℕ) (newer : Option ℕ) (back : ℕ) (w : IsWalked chains seq links seqs head turns newer back) where
    pub walked_more : AreLinks chains (IsLatest seqs) links seqs → back < length seqs → get_or seqs back 0 < SEQ_CYCLE
        → get_or seqs back 0 ≢ seq → (link : ℕ) → link ≡ get_or links back 0
        → IsWalked chains seq links seqs head (turns + 1) (Some back) (back + link)
    walked_more leads inside fits other link read =
        let latest = w.latest inside in
        let same = w.on_chain inside in
        let on : 0 < link = omega (arith, leads.onward back latest inside, read) in
        let there : back + get_or links back 0 ≡ back + link = ap (λ n. back + n) (sym read) in
        record {
          newer_leads = (latest, same, there);
          latest = λ within. leads.stands back (back + link) latest there within;
          on_chain = λ within. leads.on_chain back (back + link) latest there within ∙ same;
          not_passed = λ k k_latest k_inside number.
              let reached = w.not_passed k k_latest k_inside number in
              let apart : back ≢ k = λ e. other (ap (λ b. get_or seqs b 0) e ∙ number) in
              let skipped = leads.skips_none back k latest k_latest (ap (λ s. s % chains) number ∙ sym same) (omega arith) k_inside in
              omega (arith, skipped, there);
          turns_few = omega (arith, w.turns_few);
          turns_passed = λ many. omega (arith, w.turns_passed many, passed_more chains seq seqs back (back + link) many fits latest inside same (omega arith));
        }

    -- once the walk is past the oldest packet, no packet has the number
    pub walked_past : length seqs ≤ back → (k : ℕ) → k < length seqs → get_or seqs k 0 ≢ seq
    walked_past past = elim (first_with (λ s. s) seq seqs) [
      | inl none ↦ none
      | inr first ↦
          let latest : IsLatest seqs first.0 = λ k below same. first.1.before k below (same ∙ first.1.here) in
          absurd (omega (arith, first.1.inside, w.not_passed first.0 latest first.1.inside first.1.here))
    ]

    -- so many turns lead past the oldest packet
    pub walked_enough : (capacity : ℕ) → IsChainCount chains → (chains ≡ FEW_CHAINS → capacity ≤ MAX_CHAIN) → length seqs ≤ capacity
        → ((k : ℕ) → get_or seqs k 0 < SEQ_CYCLE) → MAX_CHAIN ≤ turns → length seqs ≤ back
    walked_enough capacity count enough few fit turned = elim count [
      | inl small ↦ omega (arith, enough small, w.turns_few)
      | inr many ↦ elim (cases_lt back (length seqs)) [
        | inl inside ↦ absurd (omega (arith, w.turns_passed many, passed_few chains seq seqs back many (fit back) (w.latest inside) inside (w.on_chain inside)))
        | inr past ↦ past
      ]
    ]
