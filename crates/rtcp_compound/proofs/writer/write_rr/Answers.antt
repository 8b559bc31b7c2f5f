use Rattle.std.proofs.Common.{◌∙◌, ℕ, ◌++◌, ◌∷◌, ◌+◌, ◌<◌, ◌*◌, ◌/◌, List, vec_len, vec_capacity, length, map, ap, sym, arith}
use Rattle.std.specs.List.{flat_map}
use Rattle.std.proofs.lemmas.List.{length-map}
use Rattle.byteorder.specs.Endian.{big_bytes}
use Rattle.rtcp_compound.specs.Report.{block_of, block_bytes}
use Rattle.rtcp_compound.specs.Grammar.{packet_bytes}
use Rattle.rtcp_compound.specs.Written.{rr_packet}
use Rattle.rtcp_compound.proofs.WriterLemmas.{puts_more, rr_written, rr_length, on_err}
use Rattle.rtcp_compound.proofs.writer.write_rr.Goals as goal

pub returns-in_err-reserve-clause-no_memory : goal.returns-in_err-reserve-clause-no_memory
returns-in_err-reserve-clause-no_memory g c =
    let short : vec_capacity c.args.out.now < vec_len c.args.out.now + length (packet_bytes (rr_packet c.args.sender.0 (map block_of c.args.blocks.now))) = omega (arith, c.in_err-reserve.ensures.full, rr_length c.args.sender.0 (map block_of c.args.blocks.now), length-map c.args.blocks.now block_of) in
    on_err _ _ short

pub returns-clause-ok : goal.returns-clause-ok
returns-clause-ok g c =
    let old = c.args.out.now.items in
    let blocks = map block_of c.args.blocks.now in
    let n = length c.args.blocks.now in
    let words = (4 + 24 * n) / 4 in
    let header : List ℕ = (128 + n) ∷ (201 ∷ big_bytes 2 words) in
    let sender = big_bytes 4 c.args.sender.0 in
    rr_written old c.put_blocks.new.out.items c.args.sender.0 n words blocks (sym (length-map c.args.blocks.now block_of)) c.requires (omega arith) c.put_u32.ensures.bits c.put_blocks.ensures.each
    (puts_more old c.put_u32.new.out.items c.put_blocks.new.out.items (header ++ sender) (flat_map block_bytes blocks)
    (puts_more old c.put_header.new.out.items c.put_u32.new.out.items header sender
    (c.put_header.ensures.items ∙ ap (λ y. y ++ header) c.reserve.ensures.items) c.put_u32.ensures.items)
    c.put_blocks.ensures.items)
