use Rattle.std.proofs.Common.{◌≡◌, ◌∙◌, ℕ, ◌++◌, [], ◌∷◌, ◌+◌, ◌<◌, ◌-◌, ◌/◌, ◌%◌, List, vec_len, vec_capacity, length, replicate, ap, refl, arith}
use Rattle.byteorder.specs.Endian.{big_bytes}
use Rattle.rtcp_compound.specs.Grammar.{packet_bytes}
use Rattle.rtcp_compound.specs.Written.{cname_packet}
use Rattle.rtcp_compound.proofs.WriterLemmas.{puts_more, cname_written, cname_length, zeros_put, on_err}
use Rattle.rtcp_compound.proofs.writer.write_sdes_cname.Goals as goal

pub returns-in_err-reserve-clause-no_memory : goal.returns-in_err-reserve-clause-no_memory
returns-in_err-reserve-clause-no_memory g c =
    let short : vec_capacity c.args.out.now < vec_len c.args.out.now + length (packet_bytes (cname_packet c.args.source.0 c.args.cname.now)) = omega (arith, c.in_err-reserve.ensures.full, cname_length c.args.source.0 c.args.cname.now) in
    on_err _ _ short

pub returns-clause-ok : goal.returns-clause-ok
returns-clause-ok g c =
    let old = c.args.out.now.items in
    let cname = c.args.cname.now in
    let words = 2 + (2 + length cname) / 4 in
    let header : List ℕ = 129 ∷ (202 ∷ big_bytes 2 words) in
    let source = big_bytes 4 c.args.source.0 in
    let item : List ℕ = 1 ∷ (length cname ∷ []) in
    let zeros : List ℕ = replicate (4 - (2 + length cname) % 4) 0 in
    let front = (header ++ source) ++ item in
    let e1 = puts_more old c.put_header.new.out.items c.put_u32.new.out.items header source (c.put_header.ensures.items ∙ ap (λ y. y ++ header) c.reserve.ensures.items) c.put_u32.ensures.items in
    let e2 = puts_more old c.put_u32.new.out.items c.put.new.out.items (header ++ source) item e1 c.put.ensures.items in
    let e3 = puts_more old c.put.new.out.items c.put-2.new.out.items front cname e2 c.put-2.ensures.items in
    let e4 = puts_more old c.put-2.new.out.items c.put_zeros.new.out.items (front ++ cname) zeros e3 c.put_zeros.ensures.items in
    let behind : (2 + length cname) ≡ (length cname + 2) = omega arith in
    cname_written old c.put_zeros.new.out.items c.args.source.0 words cname c.requires refl
    (e4 ∙ ap (λ y. old ++ (front ++ (cname ++ y))) (ap (λ (k : ℕ). replicate (4 - k % 4) 0) behind ∙ zeros_put (length cname + 2)))
