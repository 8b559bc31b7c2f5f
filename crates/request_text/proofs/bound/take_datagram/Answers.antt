use Rattle.std.proofs.Common.{refl, Err}
use Rattle.rtcp_compound.specs.Left.{packets_left}
use Rattle.request_text.specs.declared.fault.LineFault.TheVariants.{Rtcp, Feedback}
use Rattle.request_text.proofs.AskedLemmas.{asked_together, leaves_datagram}
use Rattle.request_text.proofs.bound.take_datagram.Goals as goal

pub returns-in-Ok-check_feedback : goal.returns-in-Ok-check_feedback
returns-in-Ok-check_feedback c = λ live are.
    let media = c.args.media.0 in
    let packets = c.in-Ok.packets in
    let asked = asked_together media _ c.in-Ok-check_feedback.ensures in
    leaves_datagram media c.args.datagram.now live c.take_packets.new.bounds.rows asked.0
    (record { packets = packets_left packets; joined = c.in-Ok.ensures.ok; asked = asked.1 })
    c.take_packets.result (c.take_packets.ensures asked.0 live asked.1 are)

pub returns-in-Err-check_feedback : goal.returns-in-Err-check_feedback
returns-in-Err-check_feedback c = λ live are. record {
  asked = Err (Feedback c.in-Err-check_feedback.fault);
  says = record { packets = packets_left c.in-Ok.packets; joined = c.in-Ok.ensures.ok; first = c.in-Err-check_feedback.ensures };
  done = refl;
}

pub returns-in-Err : goal.returns-in-Err
returns-in-Err c = λ live are. record { asked = Err (Rtcp c.in-Err.fault); says = c.in-Err.ensures.refused; done = refl }
