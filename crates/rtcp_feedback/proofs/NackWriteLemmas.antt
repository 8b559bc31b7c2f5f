-- What a NACK's body is read as, and how long packets are.
use Rattle.std.proofs.Common.{◌≡◌, ◌∙◌, ℕ, ◌+◌, ◌*◌, ◌/◌, ◌^◌, ◌<◌, ◌≤◌, List, ◌++◌, length, refl, ap, arith, append_assoc}
use Rattle.std.specs.List.{flat_map, All}
use Rattle.rtcp_feedback.specs.declared.nack.Nack.{Nack}
use Rattle.rtcp_feedback.specs.declared.tmmb.TmmbrEntry.{TmmbrEntry}
use Rattle.rtcp_feedback.specs.Grammar.{IsNack, nack, nack_bytes}
use Rattle.rtcp_feedback.specs.Writing.{packet_bytes, front_bytes, nack_body, tmmb_body, IsReadAs}
use Rattle.rtcp_feedback.proofs.EntryLemmas.{length-nacks}
use Rattle.rtcp_feedback.proofs.WriteLemmas.{length-tmmb_body}

-- a body with entries is two words and one for each entry
pub length-nack_body : (sender media : ℕ) (entries : List Nack) → length (nack_body sender media entries) ≡ 8 + 4 * length entries
length-nack_body sender media entries = let rest = length-nacks entries in omega arith

pub nack_again : (sender media : ℕ) (entries : List Nack) → sender < 2 ^ 32 → media < 2 ^ 32 → All IsNack entries → length entries ≤ 65533
    → IsReadAs 1 205 (nack_body sender media entries) (nack sender media entries)
nack_again sender media entries sender_fits media_fits all few =
    let size = length-nack_body sender media entries in
    record {
      fmt_fits = omega arith;
      kind_fits = omega arith;
      words = omega arith;
      length_fits = omega arith;
      reads = (refl, refl, all, record { sender_fits = sender_fits; media_fits = media_fits; bytes_are = refl });
    }

-- a header, two sources and entries are the packet
pub nack_is : (old : List ℕ) (words sender media : ℕ) (entries : List Nack) → words ≡ 2 + length entries
    → (old ++ front_bytes 1 205 words sender media) ++ flat_map nack_bytes entries ≡ old ++ packet_bytes 1 205 (nack_body sender media entries)
nack_is old words sender media entries h =
    let quarter : words ≡ length (nack_body sender media entries) / 4 = omega (arith, length-nack_body sender media entries) in
    append_assoc old (front_bytes 1 205 words sender media) (flat_map nack_bytes entries)
    ∙ ap (λ (w : ℕ). old ++ (front_bytes 1 205 w sender media ++ flat_map nack_bytes entries)) quarter

-- ---- how long packets are

pub tmmb_length : (fmt sender : ℕ) (entries : List TmmbrEntry) → length (packet_bytes fmt 205 (tmmb_body sender entries)) ≡ 12 + 8 * length entries
tmmb_length fmt sender entries = let size = length-tmmb_body sender entries in omega arith

pub nack_length : (sender media : ℕ) (entries : List Nack) → length (packet_bytes 1 205 (nack_body sender media entries)) ≡ 12 + 4 * length entries
nack_length sender media entries = let size = length-nack_body sender media entries in omega arith
