use Rattle.std.proofs.Common.{arith}
use Rattle.seats.specs.Exchange.{packet_as}
use Rattle.seats.proofs.PlaceLemmas.{length-as}
use Rattle.seats.proofs.WalkLemmas.{ends, goes_on, has_next, is_within}
use Rattle.seats.proofs.renaming.rename_packets.Goals as goal

pub rename_packet-at-requires : goal.rename_packet-at-requires
rename_packet-at-requires c =
    let next = has_next c.loop-at.packets c.loop-at.at c.loop-at.invariant.left c.loop-at-test.true in
    (next.packet, next.rest, next.first)

pub overflow_add-at : goal.overflow_add-at
overflow_add-at c =
    let within = is_within (packet_as c.args.way c.args.names) c.loop-at.packets c.rename_packet-at.new.packets c.loop-at.at c.rename_packet-at.result
    c.loop-at.invariant.left c.loop-at-test.true c.rename_packet-at.ensures in
    omega (arith, within.1)

pub loop-at-smaller : goal.loop-at-smaller
loop-at-smaller c =
    let within = is_within (packet_as c.args.way c.args.names) c.loop-at.packets c.rename_packet-at.new.packets c.loop-at.at c.rename_packet-at.result
    c.loop-at.invariant.left c.loop-at-test.true c.rename_packet-at.ensures in
    omega (arith, within.0, within.1)

pub loop-at-preserved : goal.loop-at-preserved
loop-at-preserved c =
    goes_on (packet_as c.args.way c.args.names) c.args.packets.now c.loop-at.packets c.rename_packet-at.new.packets c.loop-at.at c.rename_packet-at.result
    (λ p h. length-as c.args.way c.args.names p h) c.loop-at.invariant c.loop-at-test.true c.rename_packet-at.ensures

pub returns : goal.returns
returns c = ends (packet_as c.args.way c.args.names) c.args.packets.now c.loop-at.packets c.loop-at.at c.loop-at-test.false c.loop-at.invariant
