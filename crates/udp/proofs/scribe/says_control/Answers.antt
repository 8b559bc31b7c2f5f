use Rattle.std.proofs.Common.{◌↔◌, ◌≡◌, IsTrue, subst, sym}
use Rattle.datagram.specs.declared.reading.What.TheVariants.{Control}
use Rattle.udp.proofs.ScribeLemmas.{control_told}
use Rattle.udp.proofs.scribe.says_control.Goals as goal

pub returns-in-Control : goal.returns-in-Control
returns-in-Control c =
    subst (λ w. IsTrue c.is_same_control.result ↔ (w ≡ Control c.args.rtcp)) (sym c.in-Control.is)
    (control_told c.in-Control.other c.args.rtcp c.is_same_control.result c.is_same_control.ensures)
