use Rattle.std.proofs.Common.{◌≡◌, false, subst, ap, ◌∙◌}
use Rattle.std.specs.Prelude.{MatchOption, Option}
use Rattle.shared_packet.specs.declared.packet.PacketParts.{PacketParts}
use Rattle.shared_packet.specs.Rtp.{IsReadAs, is_rtp, payload_octets}
use Rattle.shared_packet.proofs.RtpLemmas.{no_octets}
use Rattle.shared_packet.proofs.packet.SharedPacket.octets.Goals as goal

pub returns-in-None : goal.returns-in-None
returns-in-None c =
    let bytes = c.self.inside.bytes in
    no_octets bytes (subst (λ (r : Option PacketParts). MatchOption r (is_rtp bytes ≡ false) (IsReadAs bytes)) c.in-None.is c.self.invariant)
    ∙ ap payload_octets c.self.view_is
