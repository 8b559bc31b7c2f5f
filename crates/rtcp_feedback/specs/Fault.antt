-- The faults of a body: their numbers, as texts show them, and the second one's cause.
use Rattle.std.specs.Prelude.{◌≡◌, ◌≢◌, ◌⊎◌, ◌≤◌, ◌-◌, ◌%◌, ℕ, List, length}
use Rattle.rtcp_feedback.specs.declared.fault.FbFault.{FbFault}
use Rattle.rtcp_feedback.specs.declared.fault.FbFault.TheVariants.{Short, OddFci}
use Rattle.rtcp_feedback.specs.declared.packet.TheConstants.{RTPFB}

abbrev pub feedback_fault_number : FbFault → ℕ
feedback_fault_number Short = 1
feedback_fault_number OddFci = 2

-- after the two sources, entries of a NACK (4 bytes) or of a TMMBR or TMMBN (8 bytes) don't end where the body ends
abbrev pub HasOddFci : ℕ → ℕ → List ℕ → Type 0
HasOddFci fmt kind body =
    (8 ≤ length body) × (kind ≡ RTPFB)
    × (((fmt ≡ 1) × ((length body - 8) % 4 ≢ 0))
    ⊎ (((fmt ≡ 3) ⊎ (fmt ≡ 4)) × ((length body - 8) % 8 ≢ 0)))
