use Rattle.std.proofs.Common.{rules}
use Rattle.request_text.proofs.text.refused_text.Goals as goal

pub returns-in-Feedback : goal.returns-in-Feedback
returns-in-Feedback c = rw (c.in-Feedback.is, ← c.number-in-Feedback.ensures) (search rules)
