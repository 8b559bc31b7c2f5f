use Rattle.std.proofs.Common.{◌≡◌, map, flat_map, take}
use Rattle.udp.specs.Rows.{full_word}
use Rattle.udp.proofs.table.full_words.Given as goal

abbrev pub invariant-loop-word : goal.invariant-loop-word
invariant-loop-word l =
    map (λ x. x.now) l.full.items ≡ flat_map full_word (map (λ x. x.now) (take l.word-index l.words))
