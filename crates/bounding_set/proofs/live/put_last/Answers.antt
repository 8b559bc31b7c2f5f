use Rattle.bounding_set.proofs.LastLemmas.{none_above, put_last-is}
use Rattle.bounding_set.proofs.live.put_last.Goals as goal

pub put_in-is_line-requires-clause-absent : goal.put_in-is_line-requires-clause-absent
put_in-is_line-requires-clause-absent c = none_above c.args.rows.now.items c.args.x.now.owner.0 c.requires.above

pub returns-clause-put : goal.returns-clause-put
returns-clause-put c =
    let put = c.put_in-is_line.ensures in
    put_last-is c.args.rows.now.items c.put_in-is_line.new.rows.items c.args.x.now c.requires.holds.rising put.holds.rising c.requires.above put.put
