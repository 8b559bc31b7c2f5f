use Rattle.std.proofs.Common.{◌^◌, ◌<◌, ℕ, get_or, refl, arith}
use Rattle.byteorder.specs.Endian.{big_bytes}
use Rattle.tmmbr_tuple.specs.declared.ssrc.Ssrc.{Ssrc}
use Rattle.rtcp_compound.proofs.WriterLemmas.{entry_put, entry_holds}
use Rattle.rtcp_compound.proofs.writer.put_sources.Goals as goal

pub loop-source-preserved : goal.loop-source-preserved
loop-source-preserved g c =
    let zero : Ssrc = record { 0 = 0 } in
    let source : Ssrc = get_or c.args.sources.now c.loop-source.source-index zero in
    let number = λ (s : Ssrc). s.0 in
    let P : ℕ → Type 0 = λ n. n < 2 ^ 32 in
    record {
      items = entry_put number (big_bytes 4) c.args.out.now.items c.loop-source.out.items c.put_u32.new.out.items c.args.sources.now c.loop-source.source-index source zero c.loop-source-test.true refl c.loop-source.invariant.items c.put_u32.ensures.items;
      each = entry_holds P number c.args.sources.now c.loop-source.source-index source zero c.loop-source-test.true refl c.loop-source.invariant.each c.put_u32.ensures.bits;
      len = omega arith;
      capacity = omega arith;
    }
