use Rattle.std.proofs.Common.{arith}
use Rattle.resend_ring.proofs.ChainLemmas.{number_past}
use Rattle.resend_ring.proofs.KeptLemmas.{found_latest, missed_latest}
use Rattle.resend_ring.proofs.ring.Ring.latest.Goals as goal

pub returns-in_err-back : goal.returns-in_err-back
returns-in_err-back g c =
    rw (← c.self.view_is, c.from_residual.ensures) (missed_latest c.self.inside.packets.items c.args.seq c.in_err-back.ensures)

pub returns-in_err-packet : goal.returns-in_err-packet
returns-in_err-packet g c =
    let past = number_past c.self.inside.packets.items c.in_ok-back.back c.in_err-packet.ensures in
    absurd (omega (arith, past, c.in_ok-back.ensures.inside))

pub returns : goal.returns
returns g c =
    rw (← c.self.view_is)
    (found_latest c.self.inside.packets.items c.args.seq c.in_ok-back.back c.in_ok-packet.field-0.now c.in_ok-back.ensures c.in_ok-packet.ensures)
