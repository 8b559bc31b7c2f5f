use Rattle.bounding_set.proofs.MemberLemmas.{asked_is}
use Rattle.bounding_set.proofs.rows.is_asked.Goals as goal

pub returns : goal.returns
returns c = asked_is c.args.asked c.args.tuple c.eq.result c.eq.ensures
