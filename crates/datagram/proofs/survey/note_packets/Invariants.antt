use Rattle.std.proofs.Common.{◌≡◌, ◌≤◌, List, ◌++◌, length}
use Rattle.std.specs.Prelude.{IfOk}
use Rattle.rtcp_compound.specs.Content.{Content}
use Rattle.rtcp_compound.specs.Left.{contents_left}
use Rattle.datagram.specs.Notes.{AreNoted, HasSameRoom}
use Rattle.datagram.specs.Reads.{Surveys}
use Rattle.datagram.specs.Saying.{PacketsSay}
use Rattle.datagram.proofs.survey.note_packets.Given as goal

abbrev pub invariant-loop-packet : goal.invariant-loop-packet
invariant-loop-packet l = HasSameRoom l.fn.notes l.notes
    × ((done : List Content) × (contents_left l.fn.packets ≡ done ++ contents_left l.packet-iterator)
    × AreNoted l.notes done
    × Surveys l.own.0 (PacketsSay done) l.all
    × IfOk l.all (λ s. s.control.tmmbns ≤ length done))
