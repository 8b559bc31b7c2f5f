use Rattle.rtcp_compound.proofs.LawLemmas.{one_reading}
use Rattle.rtcp_compound.proofs.laws.reads_chunks_one_way.Goals as goal

pub returns : goal.returns
returns c = λ n body a b. one_reading n body a b
