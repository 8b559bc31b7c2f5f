-- Why what came was refused, how often, and how that is told.
use Rattle.std.specs.Prelude.{ℕ, ◌≤◌, ◌++◌, List, All, Option, None, Some, codes, flat_map}
use Rattle.std.specs.Fmt.{decimal}
use Rattle.events.specs.declared.output.DeskRefusal.TheVariants as desk
use Rattle.events.specs.declared.output.Refusal.{Refusal}
use Rattle.events.specs.declared.output.Refusal.TheVariants.{Rtp, Rtcp, Feedback, Room, Desk}
use Rattle.events.specs.Refusals.{desk_number}
use Rattle.rtcp_compound.specs.declared.fault.RtcpFault.TheVariants as rtcp
use Rattle.rtcp_compound.specs.Fault.{rtcp_fault_number}
use Rattle.rtcp_feedback.specs.declared.fault.FbFault.TheVariants as feedback
use Rattle.rtcp_feedback.specs.Fault.{feedback_fault_number}
use Rattle.rtp_packet.specs.declared.fault.RtpFault.TheVariants as rtp
use Rattle.rtp_packet.specs.Fault.{rtp_number}
use Rattle.settings.specs.declared.fault.RoomFault.TheVariants as room
use Rattle.settings.specs.Fault.{room_fault_number}
use Rattle.stats.specs.declared.metrics.MetricType.TheVariants.{Counter}
use Rattle.stats.specs.declared.refusals.RefusedCount.{RefusedCount}
use Rattle.stats.specs.declared.subjects.Subject.{Subject}
use Rattle.stats.specs.Metrics.{help_line, type_line}
use Rattle.stats.specs.Subjects.{labels_at}

-- what refused it
abbrev pub kind_word : Refusal → List ℕ
kind_word (Rtp fault) = codes "rtp"
kind_word (Rtcp fault) = codes "rtcp"
kind_word (Feedback fault) = codes "feedback"
kind_word (Room fault) = codes "room"
kind_word (Desk refusal) = codes "desk"

-- the number of the reason, which counts those of a kind from 1 on
abbrev pub reason_number : Refusal → ℕ
reason_number (Rtp fault) = rtp_number fault
reason_number (Rtcp fault) = rtcp_fault_number fault
reason_number (Feedback fault) = feedback_fault_number fault
reason_number (Room fault) = room_fault_number fault
reason_number (Desk refusal) = desk_number refusal

-- the reason for people
abbrev pub reason_words : Refusal → List ℕ
reason_words (Rtp rtp.Short) = codes "an RTP packet shorter than its header"
reason_words (Rtp rtp.Version) = codes "an RTP packet of another version than 2"
reason_words (Rtp rtp.CsrcShort) = codes "an RTP packet with fewer contributing sources than it counts"
reason_words (Rtp rtp.ExtensionShort) = codes "an RTP packet that ends within its header extension"
reason_words (Rtp rtp.Padding) = codes "an RTP packet that miscounts its padding"
reason_words (Rtp rtp.Room) = codes "a buffer shorter than the RTP packet"
reason_words (Rtcp rtcp.Short) = codes "an RTCP packet shorter than its header"
reason_words (Rtcp rtcp.Version) = codes "an RTCP packet of another version than 2"
reason_words (Rtcp rtcp.Length) = codes "an RTCP packet longer than the datagram"
reason_words (Rtcp rtcp.PaddingNotLast) = codes "padding of an RTCP packet that isn't the last"
reason_words (Rtcp rtcp.Padding) = codes "an RTCP packet that miscounts its padding"
reason_words (Rtcp rtcp.CountOver) = codes "an RTCP packet with fewer entries than it counts"
reason_words (Rtcp rtcp.SdesUnended) = codes "a source description that doesn't end"
reason_words (Feedback feedback.Short) = codes "feedback shorter than its two sources"
reason_words (Feedback feedback.OddFci) = codes "feedback that ends within an entry"
reason_words (Room room.UnknownEndpoint) = codes "no such endpoint"
reason_words (Room room.WrongSsrc) = codes "an SSRC that isn't the endpoint's"
reason_words (Room room.UnknownLeg) = codes "no such leg, or no stay on it"
reason_words (Room room.StaysSpent) = codes "no number left for a stay"
reason_words (Room room.NoMemory) = codes "no memory"
reason_words (Desk desk.NotPresent) = codes "a subscriber that isn't there with this stay"
reason_words (Desk desk.AlreadyPresent) = codes "a subscriber that comes and is there already"
reason_words (Desk desk.Full) = codes "a desk with as many subscribers as there may be"
reason_words (Desk desk.HistoryFull) = codes "a desk that has no call left"

-- ---- counts

-- what is told was refused at least once
abbrev pub AreCounted : List RefusedCount → Type 0
AreCounted counts = All (λ (c : RefusedCount). 1 ≤ c.count) counts

-- of whose datagrams; of none if none is known
abbrev pub whose_word : Option ℕ → List ℕ
whose_word None = codes "none"
whose_word (Some endpoint) = decimal endpoint

-- ---- a line for people

abbrev pub reason_part : Refusal → List ℕ
reason_part r = codes " " ++ (kind_word r ++ (codes " " ++ decimal (reason_number r)))

abbrev pub refused_start : RefusedCount → List ℕ
refused_start c = codes "endpoint " ++ (whose_word c.endpoint ++ reason_part c.refusal)

abbrev pub refused_end : RefusedCount → List ℕ
refused_end c =
    codes " times "
    ++ (decimal c.count ++ (codes ": " ++ (reason_words c.refusal ++ codes "\n")))

-- the line of what was refused of an endpoint for a reason
abbrev pub refused_line : RefusedCount → List ℕ
refused_line c = refused_start c ++ refused_end c

-- ---- a metric

unfoldable pub refused_name : List ℕ
refused_name = codes "sfu_refused_total"

unfoldable pub refused_help : List ℕ
refused_help = codes "What was refused of what came from the endpoint."

abbrev pub reason_labels : Refusal → List ℕ
reason_labels r =
    codes ",kind=\""
    ++ (kind_word r ++ (codes "\",reason=\"" ++ (decimal (reason_number r) ++ codes "\"} ")))

-- the labels of whose datagrams they are
abbrev pub whose_labels : List Subject → Option ℕ → List ℕ
whose_labels subjects None = codes "endpoint=\"none\""
whose_labels subjects (Some endpoint) = labels_at subjects endpoint

unfoldable pub refused_sample : List Subject → RefusedCount → List ℕ
refused_sample subjects c =
    codes "sfu_refused_total{"
    ++ (whose_labels subjects c.endpoint
    ++ (reason_labels c.refusal ++ (decimal c.count ++ codes "\n")))

-- the metric of what was refused
abbrev pub refused_figures : List Subject → List RefusedCount → List ℕ
refused_figures subjects counts =
    help_line refused_name refused_help
    ++ (type_line refused_name Counter ++ flat_map (refused_sample subjects) counts)
