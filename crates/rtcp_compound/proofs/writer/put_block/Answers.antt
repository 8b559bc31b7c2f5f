use Rattle.std.proofs.Common.{◌∙◌, ◌++◌, ap, rules, FitsSigned, w32}
use Rattle.std.proofs.lemmas.Int.{to_z-of_z}
use Rattle.byteorder.specs.Endian.{big_bytes}
use Rattle.rtcp_compound.specs.Report.{block_of, lost_word}
use Rattle.rtcp_compound.proofs.WriterLemmas.{block_put}
use Rattle.rtcp_compound.proofs.writer.put_block.Goals as goal

pub returns-clause-items : goal.returns-clause-items
returns-clause-items g c =
    let fits : FitsSigned w32 c.args.block.lost = search rules in
    let lost = to_z-of_z w32 c.args.block.lost fits in
    block_put (block_of c.args.block) c.args.out.now.items c.put_u32.new.out.items c.put.new.out.items c.put_lost.new.out.items c.put_u32-2.new.out.items
    c.put_u32-3.new.out.items c.put_u32-4.new.out.items c.put_u32-5.new.out.items
    c.put_u32.ensures.items c.put.ensures.items (c.put_lost.ensures.items ∙ ap (λ z. c.put.new.out.items ++ big_bytes 3 (lost_word z)) lost)
    c.put_u32-2.ensures.items c.put_u32-3.ensures.items c.put_u32-4.ensures.items c.put_u32-5.ensures.items
