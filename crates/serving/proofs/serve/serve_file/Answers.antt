use Rattle.serving.proofs.ServeLemmas.{says_behind, says_early}
use Rattle.serving.proofs.serve.serve_file.Goals as goal

pub returns-in-Ok-say_serving-clause-said : goal.returns-in-Ok-say_serving-clause-said
returns-in-Ok-say_serving-clause-said g c =
    let there = c.in-Ok-say_serving.ensures.ok in
    says_behind _ _ _ there.0 there.1 _ there.2 c.serve_bound.ensures.said

pub returns-in-Ok-clause-said : goal.returns-in-Ok-clause-said
returns-in-Ok-clause-said g c = says_early _ _ _ c.in-Err-say_serving.ensures.err

pub returns-clause-said : goal.returns-clause-said
returns-clause-said g c = says_early _ _ _ c.say_fault.ensures.fails
