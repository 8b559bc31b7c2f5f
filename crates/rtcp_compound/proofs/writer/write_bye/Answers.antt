use Rattle.std.proofs.Common.{◌∙◌, ℕ, ◌++◌, ◌∷◌, ◌+◌, ◌<◌, List, vec_len, vec_capacity, length, map, ap, sym, refl, arith}
use Rattle.std.specs.List.{flat_map}
use Rattle.std.proofs.lemmas.List.{length-map}
use Rattle.byteorder.specs.Endian.{big_bytes}
use Rattle.tmmbr_tuple.specs.declared.ssrc.Ssrc.{Ssrc}
use Rattle.rtcp_compound.specs.Grammar.{packet_bytes}
use Rattle.rtcp_compound.specs.Written.{bye_packet}
use Rattle.rtcp_compound.proofs.WriterLemmas.{puts_more, bye_written, bye_length, on_err}
use Rattle.rtcp_compound.proofs.writer.write_bye.Goals as goal

pub returns-in_err-reserve-clause-no_memory : goal.returns-in_err-reserve-clause-no_memory
returns-in_err-reserve-clause-no_memory g c =
    let sources = map (λ (s : Ssrc). s.0) c.args.sources.now in
    let short : vec_capacity c.args.out.now < vec_len c.args.out.now + length (packet_bytes (bye_packet sources)) = omega (arith, c.in_err-reserve.ensures.full, bye_length sources, length-map c.args.sources.now (λ (s : Ssrc). s.0)) in
    on_err _ _ short

pub returns-clause-ok : goal.returns-clause-ok
returns-clause-ok g c =
    let sources = map (λ (s : Ssrc). s.0) c.args.sources.now in
    let n = length c.args.sources.now in
    let header : List ℕ = (128 + n) ∷ (203 ∷ big_bytes 2 n) in
    bye_written c.args.out.now.items c.put_sources.new.out.items n n sources (sym (length-map c.args.sources.now (λ (s : Ssrc). s.0))) c.requires refl c.put_sources.ensures.each
    (puts_more c.args.out.now.items c.put_header.new.out.items c.put_sources.new.out.items header (flat_map (big_bytes 4) sources)
    (c.put_header.ensures.items ∙ ap (λ y. y ++ header) c.reserve.ensures.items) c.put_sources.ensures.items)
