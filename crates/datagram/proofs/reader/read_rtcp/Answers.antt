use Rattle.std.proofs.Common.{arith}
use Rattle.rtcp_compound.specs.Left.{packets_left}
use Rattle.datagram.proofs.ReaderLemmas.{count_fits}
use Rattle.datagram.proofs.reader.read_rtcp.Goals as goal

pub survey_packets-requires : goal.survey_packets-requires
survey_packets-requires c = let fits = count_fits c.args.datagram.now (packets_left c.in-Ok.packets) c.in-Ok.ensures.ok in omega arith
