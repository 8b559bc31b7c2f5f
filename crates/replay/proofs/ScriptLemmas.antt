-- What the words of a script's line spell.
use Rattle.std.proofs.Common.{◌≡◌, ◌≢◌, ◌==◌, ℕ, length, get_or, refl, List, [], ◌∷◌}
use Rattle.std.proofs.lemmas.Bool.{cond-false, ne_eqb}
use Rattle.replay.specs.declared.script.Numbers.{Numbers}
use Rattle.replay.specs.declared.script.ScriptLine.TheVariants.{Skipped}
use Rattle.request_text.specs.Words.{words_in}
use Rattle.replay.specs.Script.{command_or_not, script_line_of, words_command}

-- ---- a publisher that a line shows is there

-- a line that isn't skipped
pub text_read : (n : Numbers) (line : List ℕ) → length line ≢ 0 → get_or line 0 0 ≢ 35
    → script_line_of n line ≡ command_or_not (words_command n (words_in line))
text_read n [] some unmarked = absurd (some refl)
text_read n (b ∷ line) some unmarked =
    cond-false (b == 35) Skipped (command_or_not (words_command n (words_in (b ∷ line)))) (ne_eqb b 35 unmarked)
