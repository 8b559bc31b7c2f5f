-- What is said of settings, from what calls answer.
use Rattle.std.proofs.Common.{◌≡◌, ◌∙◌, ℕ, List, Result, Ok, Err, IfOk, ap}
use Rattle.std.specs.String.{string_bytes}
use Rattle.std.specs.Global.{Global}
use Rattle.std.specs.declared.string.String.{String}
use Rattle.settings_toml.specs.Saying.{SaysOfLine, spotted_line}

-- a line that is made so is said of a line
pub of_line : {E : Type 0} (r : Result (String Global) E) (number : ℕ) (what said wanted : List ℕ) → said ≡ wanted
    → IfOk r (λ line. string_bytes line ≡ spotted_line number what said) → IfOk r (λ line. SaysOfLine wanted (string_bytes line))
of_line (Ok line) number what said wanted same is = record { number = number; what = what; is = is ∙ ap (spotted_line number what) same }
of_line (Err e) number what said wanted same is = tt

-- from what holds of a line that is there to what follows from that
pub if_ok : {E : Type 0} {P Q : List ℕ → Type 0} (r : Result (String Global) E) → ((line : List ℕ) → P line → Q line)
    → IfOk r (λ line. P (string_bytes line)) → IfOk r (λ line. Q (string_bytes line))
if_ok (Ok line) go p = go (string_bytes line) p
if_ok (Err e) go p = tt
