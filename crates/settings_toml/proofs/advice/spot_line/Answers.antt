use Rattle.std.proofs.Common.{List, ℕ, ◌≡◌, ◌++◌, ◌∙◌, ap, inl, inr, codes, refl}
use Rattle.settings_toml.specs.SettingsFaults.{spot_of}
use Rattle.settings_toml.specs.Saying.{SaysAtSpot, SaysOfLine}
use Rattle.settings_toml.proofs.SayingLemmas.{if_ok, of_line}
use Rattle.settings_toml.proofs.advice.spot_line.Goals as goal

pub returns-in-Key : goal.returns-in-Key
returns-in-Key c =
    let said = c.args.said.now in
    let P : List ℕ → Type 0 = SaysOfLine said in
    let Q : List ℕ → Type 0 = SaysAtSpot (spot_of c.args.place) said in
    if_ok {P = P} {Q = Q} c.spotted_line.result (λ line says. inl says) (of_line c.spotted_line.result _ _ said said refl c.spotted_line.ensures)

pub returns-in-Table : goal.returns-in-Table
returns-in-Table c =
    let said = c.args.said.now in
    let P : List ℕ → Type 0 = λ line. line ≡ c.key_of.result.now ++ (said ++ codes "\n") in
    let Q : List ℕ → Type 0 = SaysAtSpot (spot_of c.args.place) said in
    let key = ap (λ (k : List ℕ). k ++ (said ++ codes "\n")) c.key_of.ensures in
    if_ok {P = P} {Q = Q} c.unfound_line.result (λ line is. inr (is ∙ key)) c.unfound_line.ensures
