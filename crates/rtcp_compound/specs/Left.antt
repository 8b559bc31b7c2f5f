-- What the packets of a datagram have left.
use Rattle.std.specs.Prelude.{List, map}
use Rattle.rtcp_compound.specs.declared.unread.Packets.{Packets}
use Rattle.rtcp_compound.specs.Content.{Content, packet_content}
use Rattle.rtcp_compound.specs.Grammar.{RtcpPacket}
use Rattle.rtcp_compound.specs.Reading.{packets_in}

-- the packets that are left
abbrev pub packets_left : Packets → List RtcpPacket
packets_left p = packets_in p.rest.now

-- what an iterator over them has left to yield
abbrev pub contents_left : Packets → List Content
contents_left p = map packet_content (packets_in p.rest.now)
