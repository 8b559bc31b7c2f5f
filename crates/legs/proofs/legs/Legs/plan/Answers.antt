use Rattle.std.proofs.Common.{List, ◌++◌, ap, ◌∙◌}
use Rattle.legs.specs.declared.plan.Planned.{Planned}
use Rattle.legs.specs.Plan.{plan_outs, legs_after_plan}
use Rattle.legs.specs.Planning.{job_plan}
use Rattle.std.proofs.lemmas.Result.{on_ok_weaker}
use Rattle.legs.proofs.PlanLemmas.{plan_gives, plan_makes}
use Rattle.legs.proofs.legs.Legs.plan.Goals as goal

pub returns-clause-outs : goal.returns-clause-outs
returns-clause-outs c =
    let plan = job_plan c.args.rows.now c.args.self.now c.args.job.now in
    on_ok_weaker c.plan_job.result
    (λ is. ap plan_outs (is ∙ ap (λ (l : List Planned). l ++ plan) c.clear.ensures)
    ∙ plan_gives c.args.rows.now c.args.self.now c.args.job.now)
    c.plan_job.ensures

pub returns-clause-after : goal.returns-clause-after
returns-clause-after c =
    let plan = job_plan c.args.rows.now c.args.self.now c.args.job.now in
    on_ok_weaker c.plan_job.result
    (λ is. ap (legs_after_plan c.args.self.now) (is ∙ ap (λ (l : List Planned). l ++ plan) c.clear.ensures)
    ∙ plan_makes c.args.rows.now c.args.self.now c.args.job.now)
    c.plan_job.ensures
