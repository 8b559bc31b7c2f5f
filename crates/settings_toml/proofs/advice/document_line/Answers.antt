use Rattle.std.proofs.Common.{List, ℕ, ◌≡◌, inr}
use Rattle.settings_toml.specs.Saying.{SaysNoDocument, no_document}
use Rattle.settings_toml.proofs.SayingLemmas.{if_ok}
use Rattle.settings_toml.proofs.advice.document_line.Goals as goal

pub returns : goal.returns
returns c =
    let P : List ℕ → Type 0 = λ line. line ≡ no_document c.args.number c.args.why.now in
    let Q : List ℕ → Type 0 = SaysNoDocument in
    if_ok {P = P} {Q = Q} c.format.result (λ line is. inr (c.args.number, (c.args.why.now, is))) c.format.ensures.ok
