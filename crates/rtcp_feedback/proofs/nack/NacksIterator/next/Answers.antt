use Rattle.std.proofs.Common.{ap, length, arith, rules}
use Rattle.rtcp_feedback.proofs.EntryLemmas.{nacks_next}
use Rattle.rtcp_feedback.proofs.nack.NacksIterator.next.Goals as goal

pub returns-clause-goes : goal.returns-clause-goes
returns-clause-goes c =
    let step = nacks_next c.args.self.now.rest.now c.in_ok-entry.entry.now c.in_ok-entry.rest.now c.read_u16.result c.read_u16-2.result (search rules) (search rules) (search rules) in
    record { on = λ _. (tt, tt, omega (arith, ap length step)); keeps = tt; rests = λ _. tt }
