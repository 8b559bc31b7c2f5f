-- Tuples and the words that spell them.
use Rattle.std.proofs.Common.{◌≡◌, arith}
use denote.Struct.Record.{values_one}
use Rattle.tmmbr_tuple.specs.declared.tuple.Tuple.{Tuple}
use Rattle.tmmbr_tuple.specs.contracts.tuple.Tuple.{struct, the_propositions}
use Rattle.tmmbr_tuple.specs.Tuple.{word_of}

-- tuples with the same three numbers are one
pub same_tuple : (s t : Tuple) → s.exp ≡ t.exp → s.mantissa ≡ t.mantissa → s.overhead ≡ t.overhead → s ≡ t
same_tuple s t e m o = values_one struct the_propositions s t (λ i. (e i, (m i, (o i, tt))))

-- a word spells one tuple
pub word_of-injective : (s t : Tuple) → word_of s ≡ word_of t → s ≡ t
word_of-injective s t e = same_tuple s t (omega arith) (omega arith) (omega arith)
