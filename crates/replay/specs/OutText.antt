-- The lines of what the machine gives out.
use Rattle.std.specs.Prelude.{ℕ, List, ◌++◌, codes}
use Rattle.std.specs.Fmt.{decimal}
use Rattle.hex.specs.Hex.{encode_lower}
use Rattle.rtp_packet.specs.Fault.{rtp_number}
use Rattle.rtcp_compound.specs.Fault.{rtcp_fault_number as rtcp_number}
use Rattle.rtcp_feedback.specs.Fault.{feedback_fault_number as feedback_number}
use Rattle.settings.specs.Fault.{room_fault_number}
use Rattle.rewrite.specs.Skip.{skip_number}
use Rattle.events.specs.declared.output.Out.{Out}
use Rattle.events.specs.declared.output.Out.TheVariants.{Send, Refused, Busy, Lost, Skip, Miss, Idle}
use Rattle.events.specs.declared.output.Refusal.{Refusal}
use Rattle.events.specs.declared.output.Refusal.TheVariants.{Rtp, Rtcp, Feedback, Room, Desk}
use Rattle.events.specs.Refusals.{desk_number}

-- what was refused, and the number of the cause
abbrev pub refusal_line : Refusal → List ℕ
refusal_line (Rtp fault) = codes "refused rtp " ++ (decimal (rtp_number fault) ++ codes "\n")
refusal_line (Rtcp fault) = codes "refused rtcp " ++ (decimal (rtcp_number fault) ++ codes "\n")
refusal_line (Feedback fault) =
    codes "refused feedback " ++ (decimal (feedback_number fault) ++ codes "\n")
refusal_line (Room fault) =
    codes "refused room " ++ (decimal (room_fault_number fault) ++ codes "\n")
refusal_line (Desk refusal) = codes "refused desk " ++ (decimal (desk_number refusal) ++ codes "\n")

-- the line for one thing that the machine gives out
abbrev pub out_line : Out → List ℕ
out_line (Send endpoint bytes) =
    codes "send " ++ (decimal endpoint ++ (codes " " ++ (encode_lower bytes ++ codes "\n")))
out_line (Refused refusal) = refusal_line refusal
out_line Busy = codes "busy\n"
out_line (Lost worker) = codes "lost " ++ (decimal worker ++ codes "\n")
out_line (Skip leg skip) =
    codes "skip " ++ (decimal leg ++ (codes " " ++ (decimal (skip_number skip) ++ codes "\n")))
out_line (Miss leg seq) =
    codes "miss " ++ (decimal leg ++ (codes " " ++ (decimal seq ++ codes "\n")))
out_line Idle = codes "idle\n"
