use Rattle.std.proofs.Common.{arith}
use Rattle.rtcp_compound.specs.Report.{block_of, block_bytes, IsReportBlock}
use Rattle.rtcp_compound.proofs.WriterLemmas.{entry_put, entry_holds}
use Rattle.rtcp_compound.proofs.writer.put_blocks.Goals as goal

pub loop-block-preserved : goal.loop-block-preserved
loop-block-preserved g c = record {
  items = entry_put block_of block_bytes c.args.out.now.items c.loop-block.out.items c.put_block.new.out.items c.args.blocks.now c.loop-block.block-index c.block-item.result c.block-item.result c.loop-block-test.true c.block-item.is c.loop-block.invariant.items c.put_block.ensures.items;
  each = entry_holds IsReportBlock block_of c.args.blocks.now c.loop-block.block-index c.block-item.result c.block-item.result c.loop-block-test.true c.block-item.is c.loop-block.invariant.each c.put_block.ensures.block;
  len = omega arith;
  capacity = omega arith;
}
