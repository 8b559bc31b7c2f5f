use Rattle.datagram.specs.Reads.{admission_of}
use Rattle.conference.specs.Limited.{admitted}
use Rattle.conference.proofs.LimitedLemmas.{runs_limited}
use Rattle.conference.proofs.limited.take_read.Goals as goal

-- what is heard for the datagram says what is taken in
pub returns-clause-ok : goal.returns-clause-ok
returns-clause-ok c =
    let limit = c.args.limit.now in
    runs_limited c.args.moment c.args.bytes.now limit.most limit.reading.beyond c.args.world.now c.take.new.world c.args.outs.now.items
    c.take.new.outs.items c.take.result (admitted c.args.endpoint limit.reading c.args.bytes.now) (admission_of c.taking.result) c.requires.taken
    c.taking.ensures c.take.ensures.ok
