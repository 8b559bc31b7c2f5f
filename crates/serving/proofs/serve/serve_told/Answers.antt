use Rattle.serving.proofs.ServeLemmas.{prints}
use Rattle.serving.proofs.serve.serve_told.Goals as goal

pub returns-clause-done : goal.returns-clause-done
returns-clause-done g c =
    prints _ _ _ _ _ _ c.print_report.result c.print_report.ensures.done
    (λ printed. record {
      range = c.in_ok-report.ensures.range;
      report = c.in_ok-report.report;
      desks = c.in_ok-report.ensures.report;
      driven = c.in_ok-report.ensures.driven;
      printed = printed;
    })
