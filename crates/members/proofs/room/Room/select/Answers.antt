use Rattle.std.proofs.Common.{arith, rules}
use Rattle.std.proofs.lemmas.Grind.{common_steps}
use Rattle.members.proofs.room.Room.select.Goals as goal

-- each part by itself: together they reach a limit of the search
pub returns-in_err-next : goal.returns-in_err-next
returns-in_err-next c = record {
  ok = first_of (search rules, grind (arith, common_steps));
  refused = first_of (search rules, grind (arith, common_steps));
  no_memory = first_of (search rules, grind (arith, common_steps));
  unchanged = first_of (search rules, grind (arith, common_steps));
}

pub returns : goal.returns
returns c = record {
  ok = first_of (search rules, grind (arith, common_steps));
  refused = first_of (search rules, grind (arith, common_steps));
  no_memory = first_of (search rules, grind (arith, common_steps));
  unchanged = first_of (search rules, grind (arith, common_steps));
}
