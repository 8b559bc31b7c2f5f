use Rattle.std.proofs.Common.{ap, sym, length, ◌∙◌}
use Rattle.shared_packet.proofs.ReaddressedLemmas.{length-readdressed}
use Rattle.shared_packet.proofs.readdressed.Readdressed.len.Goals as goal

pub returns : goal.returns
returns c =
    let inside = c.self.inside in
    ap length c.as_slice.ensures ∙ sym (length-readdressed inside.ssrc.0 inside.sequence_number inside.packet c.self.invariant.0) ∙ ap length c.self.view_is
