use Rattle.std.proofs.Common.{List, ℕ, ◌++◌, codes, false, inl, inr}
use Rattle.settings_toml.specs.SettingsFaults.{spot_of}
use Rattle.settings_toml.specs.Saying.{SaysOfLine, SaysOfValue}
use Rattle.settings_toml.proofs.SayingLemmas.{if_ok}
use Rattle.std.specs.contracts.net.socket_addr.SocketAddrPartialEq.TheImpl as same
use Rattle.settings_toml.proofs.advice.wanted_advice.Goals as goal

pub returns-in-Some : goal.returns-in-Some
returns-in-Some c =
    let P : List ℕ → Type 0 = SaysOfLine (codes " is no address to send to: " ++ c.in-Some.why.now) in
    let Q : List ℕ → Type 0 = λ line. SaysOfValue same.eq-value.it c.args.text.now (spot_of c.args.place) c.args.wanted false line in
    if_ok {P = P} {Q = Q} c.unsendable_line.result
    (λ line says. inr (inl (record { why = c.in-Some.why.now; key = c.in-Some.ensures.key; reason = c.in-Some.ensures.reason; says = says }))) c.unsendable_line.ensures
