use Rattle.std.proofs.Common.{◌∙◌, arith}
use Rattle.rtcp_compound.proofs.SdesLemmas.{chunks_step}
use Rattle.rtcp_compound.proofs.sdes.after_chunks.Goals as goal

pub loop-left-preserved : goal.loop-left-preserved
loop-left-preserved c = chunks_step c.loop-left.left c.loop-left.rest.now c.in_ok-rest.rest.now (omega arith) c.in_ok-rest.ensures ∙ c.loop-left.invariant
