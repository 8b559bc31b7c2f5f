use Rattle.std.proofs.lemmas.Result.{err_from_is_err_and}
use Rattle.rtcp_compound.specs.Reading.{rtcp_packet_of}
use Rattle.rtcp_compound.proofs.FrameLemmas.{packet_checked, packet_faulty}
use Rattle.rtcp_compound.proofs.packet.read_packet.Goals as goal

pub returns-in_err-check_body-clause-reads : goal.returns-in_err-check_body-clause-reads
returns-in_err-check_body-clause-reads c =
    let p = err_from_is_err_and c.from_residual-in_err-check_body.result c.from_residual-in_err-check_body.ensures.1 in
    rw (p.1, p.2)
    (packet_faulty c.args.bytes.now (rtcp_packet_of c.in_ok-packet.packet, c.in_ok-packet.rest.now) c.in_err-check_body.field-0.0 c.in_ok-packet.ensures.reads c.in_err-check_body.ensures)

pub returns-clause-reads : goal.returns-clause-reads
returns-clause-reads c =
    packet_checked c.args.bytes.now (rtcp_packet_of c.in_ok-packet.packet, c.in_ok-packet.rest.now) c.in_ok-packet.ensures.reads c.in_ok-check_body.ensures
