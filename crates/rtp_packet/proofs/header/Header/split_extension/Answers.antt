use Rattle.std.proofs.Common.{arith}
use Rattle.rtp_packet.proofs.PartLemmas.{extension_read}
use Rattle.rtp_packet.proofs.header.Header.split_extension.Goals as goal

pub returns-clause-valid : goal.returns-clause-valid
returns-clause-valid c =
    extension_read c.args.rest.now c.split_at.result.0.now c.split_at.result.1.now c.read_u16.result
    c.split_at.ensures.by_index.0 (omega arith) c.read_u16.ensures
