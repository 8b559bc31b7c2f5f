use Rattle.std.proofs.Common.{ap, length, arith, rules}
use Rattle.rtcp_feedback.proofs.EntryLemmas.{entries_next}
use Rattle.rtcp_feedback.proofs.tmmb.TmmbEntriesIterator.next.Goals as goal

pub returns-clause-steps : goal.returns-clause-steps
returns-clause-steps c =
    entries_next c.args.self.now.rest.now c.in_ok-entry.entry.now c.in_ok-entry.rest.now c.read_u32.result c.read_u32-2.result (search rules) (search rules) (search rules)

pub returns-clause-goes : goal.returns-clause-goes
returns-clause-goes c =
    record { on = λ _. (tt, tt, omega (arith, ap length (returns-clause-steps c))); keeps = tt; rests = λ _. tt }
