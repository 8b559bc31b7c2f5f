use Rattle.std.proofs.Common.{◌∙◌, ℕ, ◌++◌, ◌∷◌, ◌+◌, ◌<◌, ◌*◌, ◌/◌, List, vec_len, vec_capacity, length, map, ap, sym, arith}
use Rattle.std.specs.List.{flat_map}
use Rattle.std.proofs.lemmas.List.{length-map}
use Rattle.byteorder.specs.Endian.{big_bytes}
use Rattle.rtcp_compound.specs.Report.{block_of, block_bytes}
use Rattle.rtcp_compound.specs.Grammar.{packet_bytes}
use Rattle.rtcp_compound.specs.Written.{sr_packet}
use Rattle.rtcp_compound.proofs.WriterLemmas.{puts_more, sr_written, sr_length, on_err}
use Rattle.rtcp_compound.proofs.writer.write_sr.Goals as goal

pub returns-in_err-reserve-clause-no_memory : goal.returns-in_err-reserve-clause-no_memory
returns-in_err-reserve-clause-no_memory g c =
    let short : vec_capacity c.args.out.now < vec_len c.args.out.now + length (packet_bytes (sr_packet c.args.sender.0 c.args.ntp c.args.rtp c.args.packets c.args.octets (map block_of c.args.blocks.now))) = omega (arith, c.in_err-reserve.ensures.full, sr_length c.args.sender.0 c.args.ntp c.args.rtp c.args.packets c.args.octets (map block_of c.args.blocks.now), length-map c.args.blocks.now block_of) in
    on_err _ _ short

pub returns-clause-ok : goal.returns-clause-ok
returns-clause-ok g c =
    let old = c.args.out.now.items in
    let blocks = map block_of c.args.blocks.now in
    let n = length c.args.blocks.now in
    let words = (24 + 24 * n) / 4 in
    let header : List ℕ = (128 + n) ∷ (200 ∷ big_bytes 2 words) in
    let b1 = big_bytes 4 c.args.sender.0 in
    let b2 = big_bytes 8 c.args.ntp in
    let b3 = big_bytes 4 c.args.rtp in
    let b4 = big_bytes 4 c.args.packets in
    let b5 = big_bytes 4 c.args.octets in
    let e1 = puts_more old c.put_header.new.out.items c.put_u32.new.out.items header b1 (c.put_header.ensures.items ∙ ap (λ y. y ++ header) c.reserve.ensures.items) c.put_u32.ensures.items in
    let e2 = puts_more old c.put_u32.new.out.items c.put_u64.new.out.items (header ++ b1) b2 e1 c.put_u64.ensures.items in
    let e3 = puts_more old c.put_u64.new.out.items c.put_u32-2.new.out.items ((header ++ b1) ++ b2) b3 e2 c.put_u32-2.ensures.items in
    let e4 = puts_more old c.put_u32-2.new.out.items c.put_u32-3.new.out.items (((header ++ b1) ++ b2) ++ b3) b4 e3 c.put_u32-3.ensures.items in
    let e5 = puts_more old c.put_u32-3.new.out.items c.put_u32-4.new.out.items ((((header ++ b1) ++ b2) ++ b3) ++ b4) b5 e4 c.put_u32-4.ensures.items in
    sr_written old c.put_blocks.new.out.items c.args.sender.0 c.args.ntp c.args.rtp c.args.packets c.args.octets n words blocks (sym (length-map c.args.blocks.now block_of)) c.requires (omega arith)
    c.put_u32.ensures.bits c.put_u64.ensures.bits c.put_u32-2.ensures.bits c.put_u32-3.ensures.bits c.put_u32-4.ensures.bits c.put_blocks.ensures.each
    (puts_more old c.put_u32-4.new.out.items c.put_blocks.new.out.items (((((header ++ b1) ++ b2) ++ b3) ++ b4) ++ b5) (flat_map block_bytes blocks) e5 c.put_blocks.ensures.items)
