-- What is noted of packets one after the other.
use Rattle.std.proofs.Common.{◌≡◌, ◌∙◌, ℕ, ◌+◌, List, [], ◌∷◌, ◌++◌, Result, Err, sym, ap, arith, add_assoc}
use Rattle.std.specs.List.{flat_map}
use Rattle.std.proofs.lemmas.List.{append-nil}
use Rattle.std.proofs.lemmas.List.Concat.{flat_map-append}
use Rattle.rtcp_compound.specs.Content.{Content}
use Rattle.rtcp_compound.specs.Report.{ReportBlock}
use Rattle.rtcp_compound.specs.declared.fault.RtcpFault.{RtcpFault as Fault}
use Rattle.rtcp_compound.specs.declared.packet.TheConstants.{RTPFB, PSFB}
use Rattle.rtcp_compound.specs.declared.unread.Packets.{Packets}
use Rattle.datagram.specs.Counts.{risen}
use Rattle.datagram.specs.Kinds.{feedback_count, is_feedback, kinds_in, kinds_with, one_if}
use Rattle.datagram.specs.Blocks.{blocks_said}

pub ok_is_no_err : (packets : Packets) (fault : Fault) → Result.Ok packets ≡ Err fault → ⊥
ok_is_no_err packets fault e = cc

-- ---- kinds

count_more : (fmt kind : ℕ) (cs : List Content) (c : Content)
    → feedback_count fmt kind (cs ++ c ∷ []) ≡ feedback_count fmt kind cs + one_if (is_feedback fmt kind c)
count_more fmt kind [] c = omega arith
count_more fmt kind (d ∷ cs) c =
    ap (λ (n : ℕ). one_if (is_feedback fmt kind d) + n) (count_more fmt kind cs c)
    ∙ sym (add_assoc (one_if (is_feedback fmt kind d)) (feedback_count fmt kind cs) (one_if (is_feedback fmt kind c)))

risen_on : (a b : ℕ) → risen (risen 0 a) b ≡ risen 0 (a + b)
risen_on a b = grind (arith)

kind_more : (fmt kind : ℕ) (cs : List Content) (c : Content)
    → risen (risen 0 (feedback_count fmt kind cs)) (one_if (is_feedback fmt kind c)) ≡ risen 0 (feedback_count fmt kind (cs ++ c ∷ []))
kind_more fmt kind cs c =
    risen_on (feedback_count fmt kind cs) (one_if (is_feedback fmt kind c)) ∙ ap (risen 0) (sym (count_more fmt kind cs c))

pub kinds_more : (cs : List Content) (c : Content) → kinds_with (kinds_in cs) c ≡ kinds_in (cs ++ c ∷ [])
kinds_more cs c = λ i. record {
  nacks = kind_more 1 RTPFB cs c i;
  plis = kind_more 1 PSFB cs c i;
  tmmbrs = kind_more 3 RTPFB cs c i;
  tmmbns = kind_more 4 RTPFB cs c i;
}

-- ---- blocks

pub blocks_more : (cs : List Content) (c : Content) → flat_map blocks_said cs ++ blocks_said c ≡ flat_map blocks_said (cs ++ c ∷ [])
blocks_more cs c =
    ap (λ (bs : List ReportBlock). flat_map blocks_said cs ++ bs) (sym (append-nil (blocks_said c)))
    ∙ sym (flat_map-append blocks_said cs (c ∷ []))
