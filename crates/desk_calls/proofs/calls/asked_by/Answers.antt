use Rattle.std.proofs.Common.{ap, subst, sym, ◌∙◌}
use Rattle.std.specs.Prelude.{ℕ, Option, Some}
use Rattle.desk.specs.declared.call.Call.{Call as DeskCall}
use Rattle.events.specs.declared.job.Job.{Job}
use Rattle.desk_calls.specs.DeskCalls.{asks_by, AsksOf}
use Rattle.desk_calls.proofs.calls.asked_by.Goals as goal

pub returns-in-Request-clause-value : goal.returns-in-Request-clause-value
returns-in-Request-clause-value c =
    subst (λ (job : Job). AsksOf c.args.links.now job c.asks_by.result) (sym c.in-Request.is) (
      c.from_word.result,
      c.from_word.ensures.spelled,
      c.asks_by.ensures.value ∙ ap (λ (r : Option (ℕ × DeskCall)). asks_by (Some c.in-Request.leg) r) c.stay_call.ensures.value,
    )
