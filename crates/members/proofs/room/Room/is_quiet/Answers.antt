use Rattle.std.proofs.Common.{arith, rules}
use Rattle.std.proofs.lemmas.Grind.{common_steps}
use Rattle.members.proofs.StayLemmas.{leaving_quiet, still_to_come}
use Rattle.members.proofs.room.Room.is_quiet.Goals as goal

pub returns-then-moment-self-clause-quiet : goal.returns-then-moment-self-clause-quiet
returns-then-moment-self-clause-quiet c = λ so.
    leaving_quiet c.args.self.now.timeout c.args.moment c.args.self.now.endpoints c.args.self.now.legs
    (first_of (search rules, grind (arith, common_steps)))

pub returns-clause-quiet : goal.returns-clause-quiet
returns-clause-quiet c = λ so.
    leaving_quiet c.args.self.now.timeout c.args.moment c.args.self.now.endpoints c.args.self.now.legs
    (first_of (search rules, grind (arith, common_steps)))

pub returns-clause-finds : goal.returns-clause-finds
returns-clause-finds c = λ nobody bound.
    still_to_come c.args.self.now.timeout c.first_overdue-self-inside.result c.args.moment c.args.self.now.endpoints
    (first_of (search rules, grind (arith, common_steps))) bound nobody
