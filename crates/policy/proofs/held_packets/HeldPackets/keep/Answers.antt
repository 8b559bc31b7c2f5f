use Rattle.std.proofs.Common.{inl, inr}
use Rattle.policy.proofs.HeldPacketsLemmas.{kept}
use Rattle.policy.proofs.held_packets.HeldPackets.keep.Goals as goal

pub returns-then-at-len : goal.returns-then-at-len
returns-then-at-len c =
    elim c.copy.ensures [
      | inl is ↦ inl (kept c.self.inside.odd.items c.from-at.result c.args.endpoint c.copy.new.odd c.args.self.now c.args.packet.now c.self.view_is c.from-at.ensures is)
      | inr none ↦ inr (kept c.self.inside.odd.items c.from-at.result c.args.endpoint c.copy.new.odd c.args.self.now _ c.self.view_is c.from-at.ensures none)
    ]
