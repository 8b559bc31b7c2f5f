use Rattle.std.proofs.Common.{◌∙◌, refl, rules, FitsSigned, w32}
use Rattle.std.proofs.lemmas.Int.{to_z-of_z}
use Rattle.rtcp_compound.proofs.EntryLemmas.{block_read}
use Rattle.rtcp_compound.proofs.report.Block.read.Goals as goal

pub returns : goal.returns
returns c =
    let fits : FitsSigned w32 c.read_lost.result = search rules in
    block_read c.args.bytes.now _ _ _ _ _ _ _ c.read_u32.ensures refl (to_z-of_z w32 c.read_lost.result fits ∙ c.read_lost.ensures.value)
    c.read_u32-2.ensures c.read_u32-3.ensures c.read_u32-4.ensures c.read_u32-5.ensures
