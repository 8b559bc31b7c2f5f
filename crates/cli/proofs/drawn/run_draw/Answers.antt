use Rattle.cli.proofs.OfflineLemmas.{shown_refusal}
use Rattle.cli.proofs.drawn.run_draw.Goals as goal

pub returns-in-Err-clause-ends : goal.returns-in-Err-clause-ends
returns-in-Err-clause-ends g c = record {
  done = λ is. absurd (c.report.ensures.failed is);
  refused = λ is.
      let refused = c.report.ensures.refused is in
      shown_refusal _ _ _ _ _ _ c.in-Err.failure refused.0 c.in-Err.ensures.refused refused.1;
}
