use Rattle.std.proofs.Common.{length, map, ap, arith, length-append}
use Rattle.std.proofs.lemmas.List.{length-map}
use Rattle.rtcp_compound.specs.Grammar.{packet_bytes}
use Rattle.rtcp_compound.specs.Written.{rr_packet}
use Rattle.rtcp_compound.specs.Report.{block_of}
use Rattle.rtcp_compound.proofs.WriterLemmas.{rr_length}
use Rattle.desk_calls.proofs.head.put_reports.Goals as goal

pub returns-in-Err-clause-items : goal.returns-in-Err-clause-items
returns-in-Err-clause-items c =
    absurd (omega (arith, c.in-Err.ensures.no_memory, rr_length c.args.sender.0 (map block_of c.args.blocks.now), length-map c.args.blocks.now block_of))

pub returns-in-Err-clause-short : goal.returns-in-Err-clause-short
returns-in-Err-clause-short c =
    absurd (omega (arith, c.in-Err.ensures.no_memory, rr_length c.args.sender.0 (map block_of c.args.blocks.now), length-map c.args.blocks.now block_of))

pub returns-in-Ok-clause-short : goal.returns-in-Ok-clause-short
returns-in-Ok-clause-short c =
    let blocks = map block_of c.args.blocks.now in
    let packet = packet_bytes (rr_packet c.args.sender.0 blocks) in
    omega (
      arith,
      ap length c.in-Ok.ensures.ok.bytes_are,
      length-append c.args.out.now.items packet,
      ap length c.requires.empty,
      rr_length c.args.sender.0 blocks,
      length-map c.args.blocks.now block_of,
    )
