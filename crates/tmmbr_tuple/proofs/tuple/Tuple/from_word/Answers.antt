use Rattle.std.proofs.Common.{sym, ◌∙◌, arith}
use Rattle.std.proofs.lemmas.Grind.{common_steps}
use Rattle.tmmbr_tuple.proofs.TupleLemmas.{word_of-injective}
use Rattle.tmmbr_tuple.proofs.tuple.Tuple.from_word.Goals as goal

pub returns-clause-only : goal.returns-clause-only
returns-clause-only c = λ t spelled. word_of-injective t _ (spelled ∙ sym (grind (arith, common_steps)))
