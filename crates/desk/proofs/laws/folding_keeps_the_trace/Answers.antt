use Rattle.desk.proofs.TraceLemmas.{legal-rest, calls-after, words-after}
use Rattle.desk.proofs.laws.folding_keeps_the_trace.Goals as goal

pub returns-clause-legal : goal.returns-clause-legal
returns-clause-legal c = legal-rest

pub returns-clause-calls : goal.returns-clause-calls
returns-clause-calls c = calls-after

pub returns-clause-words : goal.returns-clause-words
returns-clause-words c = words-after
