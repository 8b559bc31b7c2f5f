-- Feedback packets as packets of a compound datagram.
use Rattle.std.proofs.Common.{◌≡◌, ◌∙◌, ℕ, ◌/◌, ◌%◌, ◌<◌, ◌≤◌, List, [], ◌∷◌, length, refl, sym, subst, arith, append-nil}
use Rattle.rtcp_compound.specs.Content.{feedback, packet_content}
use Rattle.rtcp_compound.specs.Grammar.{ReadsRtcp}
use Rattle.rtcp_compound.specs.Written.{Appends, plain_packet}
use Rattle.rtcp_compound.proofs.WriterLemmas.{appended}
use Rattle.rtcp_compound.proofs.LawLemmas.{reads_alone, reads_written}
use Rattle.rtcp_feedback.specs.declared.nack.Nack.{Nack}
use Rattle.rtcp_feedback.specs.declared.tmmb.TmmbrEntry.{TmmbrEntry}
use Rattle.rtcp_feedback.specs.Writing.{packet_bytes, nack_body, tmmb_body, pli_body}
use Rattle.rtcp_feedback.proofs.NackWriteLemmas.{length-nack_body}
use Rattle.rtcp_feedback.proofs.WriteLemmas.{length-tmmb_body}
use Rattle.announcement.specs.Joining.{JoinsCompounds}

joins : (fmt kind : ℕ) (body : List ℕ) → fmt < 32 → 203 < kind → length body % 4 ≡ 0 → length body / 4 < 65536
    → packet_content (plain_packet fmt kind body) ≡ feedback fmt kind body → JoinsCompounds fmt kind body
joins fmt kind body fits above words long says =
    let p = plain_packet fmt kind body in
    let one : Appends [] (packet_bytes fmt kind body) p (feedback fmt kind body) =
    appended [] (packet_bytes fmt kind body) fmt fmt kind (length body / 4) body (feedback fmt kind body) refl fits long (omega arith)
    (record { reports = record { sender_report = λ k. absurd (omega arith); receiver_report = λ k. absurd (omega arith) }; description = λ k. absurd (omega arith); goodbye = λ k. absurd (omega arith) })
    says refl in
    record {
      one = one;
      alone = subst (λ (y : List ℕ). ReadsRtcp y (p ∷ [])) (append-nil _ ∙ sym one.bytes_are) (reads_alone (p ∷ []) (one.whole, refl, tt) (omega arith));
      front = λ datagram others h. reads_written p (feedback fmt kind body) (packet_bytes fmt kind body) datagram others one h;
    }

shown_205 : (fmt : ℕ) (body : List ℕ) → packet_content (plain_packet fmt 205 body) ≡ feedback fmt 205 body
unfolding packet_content
shown_205 fmt body = refl

shown_206 : (fmt : ℕ) (body : List ℕ) → packet_content (plain_packet fmt 206 body) ≡ feedback fmt 206 body
unfolding packet_content
shown_206 fmt body = refl

pub tmmb_joins : (fmt sender : ℕ) (entries : List TmmbrEntry) → fmt < 32 → length entries ≤ 32766 → JoinsCompounds fmt 205 (tmmb_body sender entries)
tmmb_joins fmt sender entries fits few =
    let size = length-tmmb_body sender entries in
    joins fmt 205 (tmmb_body sender entries) fits (omega arith) (omega arith) (omega arith) (shown_205 fmt (tmmb_body sender entries))

pub pli_joins : (sender media : ℕ) → JoinsCompounds 1 206 (pli_body sender media)
pli_joins sender media = joins 1 206 (pli_body sender media) (omega arith) (omega arith) refl (omega arith) (shown_206 1 (pli_body sender media))

pub nack_joins : (sender media : ℕ) (entries : List Nack) → length entries ≤ 65533 → JoinsCompounds 1 205 (nack_body sender media entries)
nack_joins sender media entries few =
    let size = length-nack_body sender media entries in
    joins 1 205 (nack_body sender media entries) (omega arith) (omega arith) (omega arith) (omega arith) (shown_205 1 (nack_body sender media entries))
