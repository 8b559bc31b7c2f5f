use Rattle.std.proofs.Common.{◌∙◌, refl}
use Rattle.rtcp_compound.proofs.DatagramLemmas.{refuses_none}
use Rattle.seats.specs.Exchange.{packet_as}
use Rattle.seats.proofs.WalkLemmas.{renamed_all}
use Rattle.seats.proofs.exchange.rename_rtcp.Goals as goal

pub returns-then-is_joined : goal.returns-then-is_joined
returns-then-is_joined c =
    let there = c.if-is_joined.ensures.joined refl in
    record {
      joined = λ packets reads. c.rename_packets.ensures ∙ renamed_all (packet_as c.args.way c.args.names) c.args.datagram.now packets reads;
      refused = λ fault refuses. absurd (refuses_none c.args.datagram.now there.0 fault refuses there.1);
    }

pub returns-else-is_joined : goal.returns-else-is_joined
returns-else-is_joined c =
    let fault = c.if-is_joined.ensures.refused refl in
    record {
      joined = λ packets reads. absurd (refuses_none c.args.datagram.now packets fault.0 fault.1 reads);
      refused = λ fault refuses. refl;
    }
