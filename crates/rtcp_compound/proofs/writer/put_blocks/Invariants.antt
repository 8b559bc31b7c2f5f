use Rattle.std.proofs.Common.{◌≡◌, ◌+◌, ◌*◌, ◌≤◌, ◌++◌, map, take, vec_len, vec_capacity}
use Rattle.std.specs.List.{All, flat_map}
use Rattle.rtcp_compound.specs.Report.{block_of, block_bytes, IsReportBlock}
use Rattle.rtcp_compound.proofs.writer.put_blocks.Given as goal

abbrev pub invariant-loop-block : goal.invariant-loop-block
invariant-loop-block g l = record {
  items : l.out.items ≡ l.initial.out.items ++ flat_map block_bytes (map block_of (take l.block-index l.blocks));
  each : All IsReportBlock (map block_of (take l.block-index l.blocks));
  len : vec_len l.out ≡ vec_len l.initial.out + 24 * l.block-index;
  capacity : vec_capacity l.initial.out ≤ vec_capacity l.out;
}
