use Rattle.std.proofs.Common.{List, map, subst, arith}
use Rattle.rtcp_compound.specs.Content.{packet_content}
use Rattle.rtcp_compound.specs.Grammar.{RtcpPacket}
use Rattle.rtcp_compound.specs.Left.{packets_left}
use Rattle.datagram.specs.Notes.{AreNoted}
use Rattle.datagram.proofs.NoteLemmas.{ok_is_no_err}
use Rattle.datagram.proofs.ReaderLemmas.{count_fits}
use Rattle.datagram.proofs.reader.note_rtcp.Goals as goal

pub note_packets-surveyed-requires : goal.note_packets-surveyed-requires
note_packets-surveyed-requires c = let fits = count_fits c.args.datagram.now (packets_left c.in-Ok.packets) c.in-Ok.ensures.ok in omega arith

pub returns-in-Ok-clause-noted : goal.returns-in-Ok-clause-noted
returns-in-Ok-clause-noted c =
    let noted : List RtcpPacket → Type 0 = λ ps. AreNoted c.note_packets-surveyed.new.notes (map packet_content ps) in record {
      joined = λ packets reads. subst noted (c.in-Ok.ensures.only packets reads) c.note_packets-surveyed.ensures.noted;
      refused = λ fault refuses. absurd (ok_is_no_err c.in-Ok.packets fault (c.in-Ok.ensures.first fault refuses));
    }
