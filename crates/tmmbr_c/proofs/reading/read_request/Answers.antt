use Rattle.std.proofs.Common.{◌≡◌, ◌∙◌, arith}
use Rattle.std.proofs.lemmas.Grind.{common_steps}
use Rattle.tmmbr_c.proofs.NumberLemmas.{asked_request-in_range}
use Rattle.tmmbr_c.proofs.reading.read_request.Goals as goal

pub returns-clause-value : goal.returns-clause-value
returns-clause-value c =
    let exponent : c.in_ok-exp.exp ≡ c.args.asked.now.exponent = grind (arith, common_steps, c.in_ok-exp.ensures, c.in_ok-exp.was) in
    let overhead : c.in_ok-overhead.overhead ≡ c.args.asked.now.overhead = grind (arith, common_steps, c.in_ok-overhead.ensures) in
    let made = c.in_ok-tuple.ensures in
    asked_request-in_range c.args.asked.now c.in_ok-tuple.tuple (made.value.0 ∙ exponent) made.value.1 (made.value.2 ∙ overhead)
