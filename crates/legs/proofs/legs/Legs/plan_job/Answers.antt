use Rattle.std.proofs.Common.{ap, sym, ◌∙◌}
use Rattle.legs.specs.Planning.{job_plan}
use Rattle.legs.proofs.LegLemmas.{unplanned, moved, desk_request, desk_pli}
use Rattle.legs.proofs.legs.Legs.plan_job.Goals as goal

pub returns-in-Packet : goal.returns-in-Packet
returns-in-Packet c =
    moved c.plan_packets.result c.plan_packets.new.plan c.args.plan.now _ _
    (ap (job_plan c.args.rows.now c.args.self.now) (sym c.in-Packet.is)) c.plan_packets.ensures

pub returns-in-Resend : goal.returns-in-Resend
returns-in-Resend c =
    moved c.plan_wanted.result c.plan_wanted.new.plan c.args.plan.now _ _
    (ap (job_plan c.args.rows.now c.args.self.now) (sym c.in-Resend.is)) c.plan_wanted.ensures

pub returns-in-Request : goal.returns-in-Request
returns-in-Request c =
    unplanned _ _ (ap (job_plan c.args.rows.now c.args.self.now) c.in-Request.is
    ∙ desk_request c.args.rows.now c.args.self.now c.in-Request.leg c.in-Request.stay c.in-Request.word)

pub returns-in-Pli : goal.returns-in-Pli
returns-in-Pli c =
    unplanned _ _ (ap (job_plan c.args.rows.now c.args.self.now) c.in-Pli.is
    ∙ desk_pli c.args.rows.now c.args.self.now c.in-Pli.leg c.in-Pli.moment)

pub returns-in-Goodbye : goal.returns-in-Goodbye
returns-in-Goodbye c =
    moved c.plan_left.result c.plan_left.new.plan c.args.plan.now _ _
    (ap (job_plan c.args.rows.now c.args.self.now) (sym c.in-Goodbye.is)) (c.plan_left.ensures c.args.rows.now)
