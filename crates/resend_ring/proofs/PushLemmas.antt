-- The chains of a ring once a packet came, and the oldest of a full ring left.
use Rattle.std.proofs.Common.{◌≡◌, ℕ, zero, suc, ◌+◌, ◌-◌, ◌<◌, List, ◌∷◌, length, get_or, set, take, refl, sym, ap, ◌∙◌, arith, length-set, length-take, get_or-set_other, get_or-set_same}
use Rattle.std.specs.Prelude.{◌%◌}
use Rattle.std.proofs.lemmas.List.{get_or-take}
use Rattle.circular_buffer.specs.Buffer.{buffer}
use Rattle.resend_ring.specs.declared.packets.TheConstants.{SEQ_CYCLE}
use Rattle.resend_ring.specs.declared.chains.Chains.{Chains}
use Rattle.resend_ring.specs.Chains.{IsChainCount, IsLatest, IsHead, AreHeads, AreLinks, AreChains}
use Rattle.resend_ring.proofs.ChainLemmas.{below_count}

-- ---- the newest

module _ (clock seq : ℕ) (heads seqs : List ℕ) (leads : AreHeads clock heads seqs) (count : IsChainCount (length heads))
    (few : length seqs < SEQ_CYCLE) where
  heads_pushed : (other back : ℕ) → IsHead (length heads) other (seq ∷ seqs) back
      → get_or (set heads (seq % length heads) ((clock + 1) % SEQ_CYCLE)) (other % length heads) 0 ≡ ((clock + 1) % SEQ_CYCLE + SEQ_CYCLE - back) % SEQ_CYCLE
  heads_pushed other zero is =
      ap (λ k. get_or (set heads (seq % length heads) ((clock + 1) % SEQ_CYCLE)) k 0) (sym is.on_chain)
      ∙ (get_or-set_same heads (seq % length heads) ((clock + 1) % SEQ_CYCLE) 0 (below_count (length heads) seq count) ∙ omega arith)
  heads_pushed other (suc k) is =
      let before : IsHead (length heads) other seqs k =
      record { inside = omega (arith, is.inside); on_chain = is.on_chain; newest = λ j below. is.newest (suc j) (omega arith) } in
      let within : k < length seqs = before.inside in
      get_or-set_other heads (seq % length heads) (other % length heads) ((clock + 1) % SEQ_CYCLE) 0 (λ same. is.newest zero (omega arith) (sym same))
      ∙ (leads other k before ∙ omega arith)

-- ---- the oldest

module _ (kept : ℕ) (seqs : List ℕ) where
  inside_kept : (back : ℕ) → back < length (take kept seqs) → (back < kept) × (back < length seqs)
  inside_kept back inside = (omega (arith, inside, length-take kept seqs), omega (arith, inside, length-take kept seqs))

  number_kept : (back : ℕ) → back < length (take kept seqs) → get_or (take kept seqs) back 0 ≡ get_or seqs back 0
  number_kept back inside = get_or-take kept seqs back 0 (inside_kept back inside).0

  latest_kept : (back : ℕ) → back < length (take kept seqs) → IsLatest (take kept seqs) back → IsLatest seqs back
  latest_kept back inside is = λ k below same.
      is k below (number_kept k (omega arith) ∙ (same ∙ sym (number_kept back inside)))

  kept_latest : (back : ℕ) → back < length (take kept seqs) → IsLatest seqs back → IsLatest (take kept seqs) back
  kept_latest back inside is = λ k below same.
      is k below (sym (number_kept k (omega arith)) ∙ (same ∙ number_kept back inside))

  head_kept : (chains seq back : ℕ) → IsHead chains seq (take kept seqs) back → IsHead chains seq seqs back
  head_kept chains seq back is = record {
    inside = (inside_kept back is.inside).1;
    on_chain = ap (λ n. n % chains) (sym (number_kept back is.inside)) ∙ is.on_chain;
    newest = λ k below same. is.newest k below (ap (λ n. n % chains) (number_kept k (omega (arith, is.inside))) ∙ same);
  }

  module _ (chains : ℕ) (links : List ℕ) (leads : AreLinks chains (IsLatest seqs) links seqs) where
    link_kept : (back : ℕ) → back < length (take kept seqs) → get_or (take kept links) back 0 ≡ get_or links back 0
    link_kept back inside = get_or-take kept links back 0 (inside_kept back inside).0

    links_kept : AreLinks chains (IsLatest (take kept seqs)) (take kept links) (take kept seqs)
    links_kept = record {
      onward = λ back s inside. omega (arith, link_kept back inside, leads.onward back (latest_kept back inside s) (inside_kept back inside).1);
      stands = λ back next s e inside.
          let within : back < length (take kept seqs) = omega arith in
          kept_latest next inside (leads.stands back next (latest_kept back within s) (omega (arith, e, link_kept back within)) (inside_kept next inside).1);
      on_chain = λ back next s e inside.
          let within : back < length (take kept seqs) = omega arith in
          ap (λ n. n % chains) (number_kept next inside)
          ∙ (leads.on_chain back next (latest_kept back within s) (omega (arith, e, link_kept back within)) (inside_kept next inside).1
          ∙ ap (λ n. n % chains) (sym (number_kept back within)));
      skips_none = λ back later s t class less inside.
          let within : back < length (take kept seqs) = omega arith in
          let class_before : get_or seqs later 0 % chains ≡ get_or seqs back 0 % chains =
          ap (λ n. n % chains) (sym (number_kept later inside)) ∙ (class ∙ ap (λ n. n % chains) (number_kept back within)) in
          omega (arith, link_kept back within, leads.skips_none back later (latest_kept back within s) (latest_kept later inside t) class_before less (inside_kept later inside).1);
    }

module _ {A : Type 0} (old new : Chains A) (capacity seq link : ℕ) (links seqs : List ℕ) (are : AreChains old capacity seqs) where
  pub chains_pushed : new.clock ≡ (old.clock + 1) % SEQ_CYCLE
      → new.heads.items ≡ set old.heads.items (seq % length old.heads.items) ((old.clock + 1) % SEQ_CYCLE)
      → new.links ≡ buffer (take capacity (link ∷ links)) capacity → length links ≡ length old.links.items
      → AreLinks (length old.heads.items) (IsLatest (seq ∷ seqs)) (link ∷ links) (seq ∷ seqs)
      → AreChains new capacity (take capacity (seq ∷ seqs))
  chains_pushed clock heads kept same leads =
      let next = (old.clock + 1) % SEQ_CYCLE in
      let chain = seq % length old.heads.items in
      let counted : length new.heads.items ≡ length old.heads.items = ap length heads ∙ length-set old.heads.items chain next in
      record {
        small = are.small;
        few = omega (arith, length-take capacity (seq ∷ seqs));
        count = rw counted are.count;
        enough = rw counted are.enough;
        room = rw kept refl;
        as_many = rw kept (omega (arith, length-take capacity (seq ∷ seqs), length-take capacity (link ∷ links), same, are.as_many));
        heads_lead = rw (counted, heads, clock) (λ other back is.
            heads_pushed old.clock seq old.heads.items seqs are.heads_lead are.count (omega (arith, are.few, are.small)) other back
            (head_kept capacity (seq ∷ seqs) (length old.heads.items) other back is));
        links_lead = rw (counted, kept) (links_kept capacity (seq ∷ seqs) (length old.heads.items) (link ∷ links) leads);
      }
