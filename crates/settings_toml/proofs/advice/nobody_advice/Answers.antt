use Rattle.std.proofs.Common.{List, ℕ, ◌∙◌, subst}
use Rattle.settings_toml.specs.SettingsFaults.{spot_of}
use Rattle.settings_toml.specs.Saying.{SaysAtSpot, nobody_words}
use Rattle.settings_toml.proofs.SayingLemmas.{if_ok}
use Rattle.settings_toml.proofs.advice.nobody_advice.Goals as goal

pub returns : goal.returns
returns c =
    let same = c.as_str.ensures.value ∙ c.in_ok-said.ensures in
    let P : List ℕ → Type 0 = SaysAtSpot (spot_of c.args.place) c.as_str.result.now in
    let Q : List ℕ → Type 0 = SaysAtSpot (spot_of c.args.place) (nobody_words c.args.count) in
    if_ok {P = P} {Q = Q} c.spot_line.result (λ line says. subst (λ (words : List ℕ). SaysAtSpot (spot_of c.args.place) words line) same says) c.spot_line.ensures
