use Rattle.core_steps.specs.Machine.{state_of, whole, rest_of, tasks_of}
use Rattle.core_steps.proofs.FrontLemmas.{reports_beside}
use Rattle.core_steps.proofs.IngressLemmas.{reported_by}
use Rattle.core_steps.proofs.ingress.report.Goals as goal

pub returns-clause-ok : goal.returns-clause-ok
returns-clause-ok c =
    reported_by (state_of c.args.m.now) (whole c.report_on.new.front (rest_of c.args.m.now)) c.args.publisher c.in_ok-bytes.bytes (tasks_of c.finish.new.self)
    c.args.outs.now.items c.push_reserved.new.self.items
    c.knows_counts.ensures.lost
    c.knows_counts.ensures.tmmbns
    (reports_beside c.args.m.now.front c.report_on.new.front (rest_of c.args.m.now) c.args.publisher c.in_ok-bytes.bytes c.in_ok-bytes.ensures.ok)
    c.finish.ensures.tasks
    c.push_reserved.ensures.items
