use Rattle.std.proofs.Common.{rules}
use Rattle.rtcp_feedback.proofs.EntryLemmas.{entries_next}
use Rattle.datagram.proofs.notice.first_entry.Goals as goal

pub returns-clause-entries : goal.returns-clause-entries
returns-clause-entries c =
    entries_next c.args.bytes.now c.in_ok-entry.entry.now c.in_ok-entry.behind.now c.read_u32.result c.read_u32-2.result (search rules) (search rules) (search rules)
