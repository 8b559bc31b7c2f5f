use Rattle.datagram.specs.Reads.{admission_of}
use Rattle.core_steps.specs.Machine.{whole}
use Rattle.core_steps.proofs.FrontLemmas.{not_busy}
use Rattle.core_steps.proofs.HearingLeaves.{takes_media, takes_goodbye, takes_control, takes_refusal}
use Rattle.core_steps.proofs.hearing.take.Goals as goal

pub returns-in-Media-clause-ok : goal.returns-in-Media-clause-ok
returns-in-Media-clause-ok c =
    λ bytes says rest idle. takes_media c.hear_media.result (whole c.args.front.now rest) c.args.moment (admission_of c.args.taking) c.in-Media.packet
    bytes c.args.outs.now.items c.hear_media.new.outs.items (whole c.hear_media.new.front rest) c.in-Media.is says
    (c.hear_media.ensures.ok rest idle)

pub returns-in-Goodbye-clause-ok : goal.returns-in-Goodbye-clause-ok
returns-in-Goodbye-clause-ok c =
    λ bytes says rest idle. takes_goodbye c.hear_goodbye.result (whole c.args.front.now rest) c.args.moment (admission_of c.args.taking) bytes
    c.args.outs.now.items c.hear_goodbye.new.outs.items (whole c.hear_goodbye.new.front rest) c.in-Goodbye.is says
    (c.hear_goodbye.ensures.ok bytes rest idle)

pub returns-in-Control-clause-ok : goal.returns-in-Control-clause-ok
returns-in-Control-clause-ok c =
    λ bytes says rest idle. takes_control c.hear_control.result (whole c.args.front.now rest) c.args.moment (admission_of c.args.taking)
    c.in-Control.control bytes c.args.outs.now.items c.hear_control.new.outs.items (whole c.hear_control.new.front rest) c.in-Control.is says
    (λ reports is. c.hear_control.ensures.ok bytes reports is rest idle)

pub returns-in_ok-push-in-Refused-clause-ok : goal.returns-in_ok-push-in-Refused-clause-ok
returns-in_ok-push-in-Refused-clause-ok c =
    λ bytes says rest idle. takes_refusal (whole c.args.front.now rest) c.args.moment (admission_of c.args.taking) c.in-Refused.refusal bytes
    c.args.outs.now.items c.push.new.self.items (not_busy c.args.front.now rest c.requires.idle idle) idle.1 c.knows_count.ensures
    c.in-Refused.is says c.in_ok-push-in-Refused.ensures.items
