use Rattle.std.proofs.Common.{refl, arith}
use Rattle.rtcp_feedback.proofs.MessageLemmas.{IsRead, is_read, read_all, read_every, never_short, odd_exactly}
use Rattle.rtcp_feedback.proofs.feedback.read_feedback.Goals as goal

is_read_here : (c : goal.After-read_fci) → IsRead c.args.fmt c.args.kind c.args.body.now c.read_fci.result
is_read_here c =
    is_read c.args.fmt c.args.kind c.read_u32.result c.read_u32-2.result c.args.body.now _ c.read_fci.result
    (omega arith) (λ k. omega (arith, c.type_inv.body k)) c.read_u32.ensures c.read_u32-2.ensures refl c.read_fci.ensures

pub returns-clause-read : goal.returns-clause-read
returns-clause-read c = read_all c.args.fmt c.args.kind c.args.body.now c.read_fci.result (is_read_here c)

pub returns-clause-every : goal.returns-clause-every
returns-clause-every c = read_every c.args.fmt c.args.kind c.args.body.now c.read_fci.result (is_read_here c)

pub returns-clause-short : goal.returns-clause-short
returns-clause-short c = (
  λ e. absurd (never_short c.args.fmt c.args.kind c.args.body.now c.read_fci.result (is_read_here c) e),
  λ short. absurd (omega arith),
)

pub returns-clause-odd_fci : goal.returns-clause-odd_fci
returns-clause-odd_fci c = odd_exactly c.args.fmt c.args.kind c.args.body.now c.read_fci.result (is_read_here c)
