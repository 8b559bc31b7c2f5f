use Rattle.std.proofs.Common.{◌≡◌, ◌++◌, flat_map, map, string_bytes, take}
use Rattle.commands.specs.Asking.{spaced}
use Rattle.commands.proofs.ask.push_spaced.Given as goal

abbrev pub invariant-loop-word : goal.invariant-loop-word
invariant-loop-word g l = string_bytes l.line ≡ string_bytes l.fn.line ++ flat_map spaced (map g.S.AsStr.text (take l.word-index l.words))
