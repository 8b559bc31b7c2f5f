use Rattle.std.proofs.Common.{ap, sym, ◌∙◌}
use Rattle.shared_packet.specs.Rtp.{payload_octets}
use Rattle.shared_packet.proofs.RtpLemmas.{octets-readdressed}
use Rattle.shared_packet.proofs.readdressed.Readdressed.octets.Goals as goal

pub returns : goal.returns
returns c =
    let inside = c.self.inside in
    sym c.self.invariant.1 ∙ sym (octets-readdressed inside.ssrc.0 inside.sequence_number inside.packet c.self.invariant.0)
    ∙ ap payload_octets c.self.view_is
