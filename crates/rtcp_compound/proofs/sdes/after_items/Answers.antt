use Rattle.std.proofs.Common.{◌∙◌, ◌+◌, arith}
use Rattle.rtcp_compound.proofs.SdesLemmas.{items_step}
use Rattle.rtcp_compound.proofs.sdes.after_items.Goals as goal

pub loop-rest-preserved : goal.loop-rest-preserved
loop-rest-preserved c =
    items_step c.loop-rest.rest.now (2 + c.from-end.result) c.if-rest-eq0.false (omega arith) (omega arith) (omega arith) ∙ c.loop-rest.invariant
