use Rattle.std.proofs.Common.{List, ℕ, [], ◌≡◌, ◌⊎◌, inr, refl}
use Rattle.settings_toml.specs.Saying.{SaysOfLine, shared_words}
use Rattle.settings_toml.proofs.SayingLemmas.{if_ok, of_line}
use Rattle.settings_toml.proofs.advice.same_advice.Goals as goal

pub returns-in-Some : goal.returns-in-Some
returns-in-Some c =
    let Q : List ℕ → Type 0 = λ line. (line ≡ []) ⊎ SaysOfLine shared_words line in
    let P : List ℕ → Type 0 = SaysOfLine shared_words in
    if_ok {P = P} {Q = Q} c.spotted_line.result (λ line says. inr says) (of_line c.spotted_line.result _ _ shared_words shared_words refl c.spotted_line.ensures)
