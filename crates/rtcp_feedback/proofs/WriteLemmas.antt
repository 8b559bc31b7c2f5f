-- What is written, and what its body is read as.
use Rattle.std.proofs.Common.{◌≡◌, ◌∙◌, ℕ, ◌+◌, ◌*◌, ◌/◌, ◌^◌, ◌<◌, ◌≤◌, List, ◌++◌, length, refl, ap, arith, append_assoc}
use Rattle.std.specs.List.{flat_map, All}
use Rattle.rtcp_feedback.specs.declared.tmmb.TmmbrEntry.{TmmbrEntry}
use Rattle.rtcp_feedback.specs.Grammar.{entry_bytes, IsEntry, tmmbr, tmmbn, IsBody}
use Rattle.rtcp_feedback.specs.Writing.{packet_bytes, front_bytes, tmmb_body, IsReadAs}
use Rattle.rtcp_feedback.proofs.EntryLemmas.{length-entries}

-- a body with entries is two words and two for each entry
pub length-tmmb_body : (sender : ℕ) (entries : List TmmbrEntry) → length (tmmb_body sender entries) ≡ 8 + 8 * length entries
length-tmmb_body sender entries = let rest = length-entries entries in omega arith

tmmb_is : (sender : ℕ) (entries : List TmmbrEntry) → sender < 2 ^ 32 → IsBody (tmmb_body sender entries) sender 0 (flat_map entry_bytes entries)
tmmb_is sender entries fits = record { sender_fits = fits; media_fits = omega arith; bytes_are = refl }

pub tmmbr_again : (sender : ℕ) (entries : List TmmbrEntry) → sender < 2 ^ 32 → All IsEntry entries → length entries ≤ 32766
    → IsReadAs 3 205 (tmmb_body sender entries) (tmmbr sender entries)
tmmbr_again sender entries fits all few =
    let size = length-tmmb_body sender entries in
    record {
      fmt_fits = omega arith;
      kind_fits = omega arith;
      words = omega arith;
      length_fits = omega arith;
      reads = (refl, refl, all, (0, tmmb_is sender entries fits));
    }

pub tmmbn_again : (sender : ℕ) (entries : List TmmbrEntry) → sender < 2 ^ 32 → All IsEntry entries → length entries ≤ 32766
    → IsReadAs 4 205 (tmmb_body sender entries) (tmmbn sender entries)
tmmbn_again sender entries fits all few =
    let size = length-tmmb_body sender entries in
    record {
      fmt_fits = omega arith;
      kind_fits = omega arith;
      words = omega arith;
      length_fits = omega arith;
      reads = (refl, refl, all, (0, tmmb_is sender entries fits));
    }

-- a header, two sources and entries are the packet
pub packet_is : (old : List ℕ) (fmt words sender : ℕ) (entries : List TmmbrEntry) → words ≡ 2 + 2 * length entries
    → (old ++ front_bytes fmt 205 words sender 0) ++ flat_map entry_bytes entries ≡ old ++ packet_bytes fmt 205 (tmmb_body sender entries)
packet_is old fmt words sender entries h =
    let quarter : words ≡ length (tmmb_body sender entries) / 4 = omega (arith, length-tmmb_body sender entries) in
    append_assoc old (front_bytes fmt 205 words sender 0) (flat_map entry_bytes entries)
    ∙ ap (λ (w : ℕ). old ++ (front_bytes fmt 205 w sender 0 ++ flat_map entry_bytes entries)) quarter
