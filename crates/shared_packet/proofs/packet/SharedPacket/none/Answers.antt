use Rattle.std.proofs.Common.{◌≡◌, ℕ, List, [], false, refl, sym, subst}
use Rattle.shared_packet.specs.Rtp.{is_rtp}
use Rattle.shared_packet.proofs.packet.SharedPacket.none.Goals as goal

no_bytes : is_rtp [] ≡ false
unfolding is_rtp
no_bytes = refl

pub invariant_of-result : goal.invariant_of-result
invariant_of-result c = subst (λ (d : List ℕ). is_rtp d ≡ false) (sym c.none.ensures) no_bytes
