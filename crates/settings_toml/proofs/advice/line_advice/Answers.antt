use Rattle.std.proofs.Common.{List, ℕ, ◌≡◌, ◌++◌, codes, false, inr, refl}
use Rattle.settings_toml.specs.SettingsFaults.{spot_of}
use Rattle.settings_toml.specs.Saying.{SaysOfLine, SaysOfValue, mixed_words}
use Rattle.settings_toml.proofs.SayingLemmas.{if_ok, of_line}
use Rattle.std.specs.contracts.net.socket_addr.SocketAddrPartialEq.TheImpl as same
use Rattle.settings_toml.proofs.advice.line_advice.Goals as goal

pub returns-then-is_sendable : goal.returns-then-is_sendable
returns-then-is_sendable c =
    let Q : List ℕ → Type 0 = λ line. SaysOfValue same.eq-value.it c.args.text.now (spot_of c.args.place) c.args.wanted false line in
    let says = of_line c.spotted_line.result _ _ mixed_words mixed_words refl c.spotted_line.ensures in
    if_ok {P = SaysOfLine mixed_words} {Q = Q} c.spotted_line.result (λ line says. inr (inr (record { sendable = c.if-is_sendable.ensures refl; says = says }))) says
