-- How the packets of a ring are chained, to be found by their sequence numbers. Of so many chains a packet with the number n
-- belongs to the chain n % chains. Places are counted from the newest packet back.
use Rattle.std.specs.Prelude.{◌≡◌, ◌≢◌, ◌<◌, ◌≤◌, ◌+◌, ◌-◌, ◌%◌, ℕ, List, ◌⊎◌, length, map, slice_index, MatchOption}
use Rattle.resend_ring.specs.declared.packets.TheConstants.{SEQ_CYCLE}
use Rattle.resend_ring.specs.declared.packets.TheConstants.{MAX_CAPACITY}
use Rattle.resend_ring.specs.declared.chains.TheConstants.{MAX_CHAIN, MANY_CHAINS, FEW_CHAINS}
use Rattle.resend_ring.specs.declared.chains.Chains.{Chains}
use Rattle.resend_ring.specs.declared.chains.Found.{Found}

-- the sequence numbers of these packets
abbrev pub sequence_numbers : {T : Type 0} → List (ℕ × T) → List ℕ
sequence_numbers packets = map (λ p. p.0 % SEQ_CYCLE) packets

-- how many chains a ring may have
abbrev pub IsChainCount : ℕ → Type 0
IsChainCount chains = (chains ≡ FEW_CHAINS) ⊎ (chains ≡ MANY_CHAINS)

-- no newer packet has the number of the packet at this place
abbrev pub IsLatest : List ℕ → ℕ → Type 0
IsLatest seqs back = (k : ℕ) → k < back → slice_index seqs k ≢ slice_index seqs back

-- the packet at this place is the newest of the chain of a number
pub record IsHead (chains seq : ℕ) (seqs : List ℕ) (back : ℕ) : Type 0 where
  pub inside : back < length seqs
  pub on_chain : slice_index seqs back % chains ≡ seq % chains
  pub newest : (k : ℕ) → k < back → slice_index seqs k % chains ≢ seq % chains

-- each head says what the clock was as the newest packet of its chain came
abbrev pub AreHeads : ℕ → List ℕ → List ℕ → Type 0
AreHeads clock heads seqs = (seq back : ℕ) → IsHead (length heads) seq seqs back
    → slice_index heads (seq % length heads) ≡ (clock + SEQ_CYCLE - back) % SEQ_CYCLE

-- the packet at this place is the latest with a sequence number
pub record IsLatestWith (seq : ℕ) (seqs : List ℕ) (back : ℕ) : Type 0 where
  pub inside : back < length seqs
  pub number : slice_index seqs back ≡ seq
  pub latest : IsLatest seqs back

-- the latest packet with a sequence number was found, and the link at newer, if there is one, leads there
pub record IsFound (chains seq : ℕ) (links seqs : List ℕ) (head : ℕ) (found : Found) : Type 0 where
  pub latest : IsLatestWith seq seqs found.back
  pub newer : MatchOption found.newer (found.back ≡ head) (λ newer. IsLatest seqs newer
      × (slice_index seqs newer % chains ≡ seq % chains) × (newer + slice_index links newer ≡ found.back))

-- The packets that stand in their chains lead on from one to the next older, and past the oldest packet from the last one.
pub record AreLinks (chains : ℕ) (Stands : ℕ → Type 0) (links seqs : List ℕ) : Type 0 where
  pub onward : (back : ℕ) → Stands back → back < length seqs → 0 < slice_index links back
  pub stands : (back next : ℕ) → Stands back → back + slice_index links back ≡ next → next < length seqs
      → Stands next
  pub on_chain : (back next : ℕ) → Stands back → back + slice_index links back ≡ next → next < length seqs
      → slice_index seqs next % chains ≡ slice_index seqs back % chains
  pub skips_none : (back later : ℕ) → Stands back → Stands later
      → slice_index seqs later % chains ≡ slice_index seqs back % chains → back < later → later < length seqs
      → back + slice_index links back ≤ later

-- These are the chains of a ring of this capacity whose packets have these numbers: of each number the latest packet stands
-- in its chain, and no other.
pub record AreChains {A : Type 0} (chains : Chains A) (capacity : ℕ) (seqs : List ℕ) : Type 0 where
  pub small : capacity ≤ MAX_CAPACITY
  pub few : length seqs ≤ capacity
  pub count : IsChainCount (length chains.heads.items)
  pub enough : length chains.heads.items ≡ FEW_CHAINS → capacity ≤ MAX_CHAIN
  pub room : chains.links.capacity ≡ capacity
  pub as_many : length chains.links.items ≡ length seqs
  pub heads_lead : AreHeads chains.clock chains.heads.items seqs
  pub links_lead : AreLinks (length chains.heads.items) (IsLatest seqs) chains.links.items seqs
