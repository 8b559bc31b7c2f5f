use Rattle.std.proofs.Common.{◌∙◌, sym, ap}
use Rattle.std.proofs.lemmas.Bool.{eqb-true, eq-eqb}
use Rattle.tmmbr_tuple.specs.Tuple.{word_of}
use Rattle.tmmbr_tuple.proofs.TupleLemmas.{word_of-injective}
use Rattle.rate_desk.proofs.gathering.is_tuple.Goals as goal

-- a word spells one tuple
pub returns : goal.returns
returns c = (
  λ h. word_of-injective c.args.one c.args.other (sym c.to_word-word.ensures ∙ eqb-true _ _ h ∙ c.to_word-second.ensures),
  λ e. eq-eqb _ _ (c.to_word-word.ensures ∙ ap word_of e ∙ sym c.to_word-second.ensures),
)
