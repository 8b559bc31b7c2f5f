use Rattle.std.proofs.Common.{length, refl, ap, sym, ◌∙◌}
use Rattle.shared_packet.proofs.ReaddressedLemmas.{length-readdressed, readdressed}
use Rattle.shared_packet.proofs.readdressed.Readdressed.copy_to.Goals as goal

pub copy_from_slice-requires : goal.copy_from_slice-requires
copy_from_slice-requires c =
    let inside = c.self.inside in
    c.requires ∙ ap length (sym c.self.view_is) ∙ length-readdressed inside.ssrc.0 inside.sequence_number inside.packet c.self.invariant.0
    ∙ ap length (sym c.as_slice.ensures)

pub returns : goal.returns
returns c =
    let inside = c.self.inside in
    readdressed inside.ssrc.0 inside.sequence_number inside.packet c.copy_from_slice.new.self c.write_u16.new.buf c.write_u32.new.buf _
    c.self.invariant.0 (c.copy_from_slice.ensures.after ∙ c.as_slice.ensures) c.write_u16.ensures refl c.write_u32.ensures
    ∙ c.self.view_is
