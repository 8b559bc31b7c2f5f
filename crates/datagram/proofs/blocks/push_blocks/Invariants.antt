use Rattle.std.proofs.Common.{◌≡◌, ◌≤◌, List, ◌++◌, map, take, vec_capacity}
use Rattle.rtcp_compound.specs.Report.{ReportBlock, block_of, blocks_left}
use Rattle.datagram.proofs.blocks.push_blocks.Given as goal

abbrev pub invariant-loop-block : goal.invariant-loop-block
invariant-loop-block l = (l.most ≤ vec_capacity l.blocks)
    × ((done : List ReportBlock) → map block_of l.fn.blocks.items ≡ take l.most done
    → (more : List ReportBlock) × (map block_of l.blocks.items ≡ take l.most (done ++ more)) × (blocks_left l.fn.more ≡ more ++ blocks_left l.block-iterator))
