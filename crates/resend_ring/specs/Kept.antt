-- What a ring keeps.
use Rattle.std.specs.Prelude.{◌==◌, ℕ, ◌%◌, List, [], ◌∷◌, ◌++◌, find, reverse, Option, option_map}
use Rattle.circular_buffer.specs.Buffer.{keep_last}
use Rattle.resend_ring.specs.declared.packets.TheConstants.{SEQ_CYCLE}

-- a packet as it was sent: its outgoing number, and its bytes or what stands for them
pub record SentPacket (T : Type 0) : Type 0 where
  pub number : ℕ
  pub packet : T

-- the packets that are kept for NACKs (RFC 4585, section 6.2.1), oldest first, and how many there may be
pub record Kept (T : Type 0) : Type 0 where
  pub capacity : ℕ
  pub items : List (SentPacket T)

abbrev pub sent_packet : {T : Type 0} → ℕ × T → SentPacket T
sent_packet p = record { number = p.0; packet = p.1 }

-- the latest packet whose number is congruent to seq modulo 65536 (RFC 4585, section 6.2.1)
abbrev pub last_kept_with : {T : Type 0} → List (SentPacket T) → ℕ → Option T
last_kept_with {T} items seq =
    option_map (λ (p : SentPacket T). p.packet)
    (find (λ p. p.number % SEQ_CYCLE == seq) (reverse items))

-- what is kept of these once more packets came in turn
abbrev pub kept_in_turn : {T : Type 0} → ℕ → List (SentPacket T) → List (SentPacket T) → List (SentPacket T)
kept_in_turn capacity items [] = items
kept_in_turn capacity items (p ∷ packets) =
    kept_in_turn capacity (keep_last capacity (items ++ p ∷ [])) packets
