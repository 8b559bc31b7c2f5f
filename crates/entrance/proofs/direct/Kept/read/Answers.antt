use Rattle.std.proofs.Common.{ap, take}
use Rattle.entrance.specs.Kept.{datagram_in}
use Rattle.entrance.proofs.EntranceLemmas.{taken_as_read}
use Rattle.entrance.proofs.direct.Kept.read.Goals as goal

pub returns-clause-taken : goal.returns-clause-taken
returns-clause-taken c =
    taken_as_read c.read.result c.args.links.now c.own_source-own.result c.args.self.now.endpoint (take c.args.self.now.size c.as_slice.result.now)
    (datagram_in c.args.self.now) c.read.new.reading c.own_source-own.ensures (ap (take c.args.self.now.size) c.as_slice.ensures.value)
    c.read.ensures.ok c.read.ensures.packet
