use Rattle.std.proofs.Common.{ap, sym, length, ◌∙◌}
use Rattle.shared_packet.specs.Readdressed.{readdressed_bytes}
use Rattle.shared_packet.proofs.ReaddressedLemmas.{length-readdressed, readdressed-again}
use Rattle.shared_packet.proofs.readdressed.Readdressed.into_packet.Goals as goal

pub returns-clause-size : goal.returns-clause-size
returns-clause-size c =
    let inside = c.self.inside in
    sym (length-readdressed inside.ssrc.0 inside.sequence_number inside.packet c.self.invariant.0) ∙ ap length c.self.view_is

pub returns-clause-bytes : goal.returns-clause-bytes
returns-clause-bytes c =
    let inside = c.self.inside in
    λ ssrc number. sym (readdressed-again inside.ssrc.0 inside.sequence_number inside.packet c.self.invariant.0 ssrc number)
    ∙ ap (readdressed_bytes ssrc number) c.self.view_is
