use Rattle.std.proofs.Common.{rules, arith}
use Rattle.std.proofs.lemmas.Grind.{common_steps}
use Rattle.bounding_set.proofs.ImpliesLemmas.{alone_iff}
use Rattle.bounding_set.proofs.implies.implies_alone.Goals as goal

pub returns-then-a-gt0 : goal.returns-then-a-gt0
returns-then-a-gt0 c = alone_iff c.args.a.now c.args.x.now _ (search rules)

pub returns-else-a-gt0 : goal.returns-else-a-gt0
returns-else-a-gt0 c = alone_iff c.args.a.now c.args.x.now _ (grind (arith, common_steps))

pub returns-else-rate-from : goal.returns-else-rate-from
returns-else-rate-from c = alone_iff c.args.a.now c.args.x.now _ (search rules)
