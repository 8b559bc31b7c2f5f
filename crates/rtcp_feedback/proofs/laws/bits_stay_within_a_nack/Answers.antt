use Rattle.std.proofs.Common.{arith}
use Rattle.std.proofs.lemmas.Nat.{and_le_l, or_lt}
use Rattle.rtcp_feedback.proofs.laws.bits_stay_within_a_nack.Goals as goal

pub returns-clause-left_out : goal.returns-clause-left_out
returns-clause-left_out c = λ entry kept is.
    let fits = is.1 in
    let less = and_le_l entry.blp kept in
    (is.0, omega arith)

pub returns-clause-added : goal.returns-clause-added
returns-clause-added c = λ entry more is fits. (is.0, or_lt 16 entry.blp more is.1 fits)
