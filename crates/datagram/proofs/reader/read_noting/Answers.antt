use Rattle.datagram.proofs.PacketLemmas.{packet_was_read}
use Rattle.datagram.proofs.reader.read_noting.Goals as goal

pub returns-clause-packet : goal.returns-clause-packet
returns-clause-packet c =
    packet_was_read c.args.own.0 c.args.datagram.now c.in_ok-heard.ensures.heard.0 c.in_ok-heard.heard.what c.in_ok-heard.ensures.heard.1
