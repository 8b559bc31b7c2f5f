use Rattle.std.proofs.Common.{◌↔◌, IsTrue, IfOk, subst, sym}
use Rattle.datagram.specs.Reads.{IsSaidIn, was_read}
use Rattle.udp.specs.Scribe.{IsReadAgain}
use Rattle.udp.proofs.ScribeLemmas.{media_came, refused_came}
use Rattle.udp.proofs.scribe.Scribe.is_what_came.Goals as goal

pub returns-in-Media : goal.returns-in-Media
returns-in-Media c = λ heard. media_came c.args.kept.now _ c.in-Media.is heard

pub returns-in-Refused : goal.returns-in-Refused
returns-in-Refused c = λ heard. refused_came c.args.kept.now _ c.in-Refused.is heard

pub returns-in-Goodbye : goal.returns-in-Goodbye
returns-in-Goodbye c = λ heard.
    let k = c.args.kept.now in
    subst (λ bytes. IfOk c.says.result (λ is. IsTrue is ↔ IsSaidIn k.sent.own.0 bytes (was_read k.reading))) c.bytes.ensures
    (c.says.ensures (subst IsReadAgain (sym c.in-Goodbye.is) tt))

pub returns-in-Control : goal.returns-in-Control
returns-in-Control c = λ heard.
    let k = c.args.kept.now in
    subst (λ bytes. IfOk c.says-in-Control.result (λ is. IsTrue is ↔ IsSaidIn k.sent.own.0 bytes (was_read k.reading))) c.bytes-in-Control.ensures
    (c.says-in-Control.ensures (subst IsReadAgain (sym c.in-Control.is) tt))
