use Rattle.std.proofs.Common.{◌∷◌, arith}
use Rattle.resend_ring.proofs.KeptLemmas.{as_many_numbers, kept_newest, left_oldest, numbers_taken, same_kept}
use Rattle.resend_ring.proofs.ring.Ring.keep.Goals as goal

pub invariant_of-self : goal.invariant_of-self
invariant_of-self g c =
    let packets = c.self.inside.packets in
    rw c.push_front.ensures.items (
      c.self.invariant.0,
      rw (numbers_taken packets.capacity ((c.args.number, c.args.packet) ∷ packets.items)) c.push.ensures,
    )

pub returns-clause-kept : goal.returns-clause-kept
returns-clause-kept g c =
    let packets = c.self.inside.packets in
    rw (c.push_front.ensures.items, ← c.self.view_is)
    (same_kept packets.capacity _ _ (kept_newest packets.capacity (c.args.number, c.args.packet) packets.items))

pub returns-clause-left : goal.returns-clause-left
returns-clause-left g c =
    let packets = c.self.inside.packets in
    rw (← c.self.view_is, c.push_front.ensures.items, c.push_front.ensures.value)
    (left_oldest packets.capacity (c.args.number, c.args.packet) packets.items
    (omega (arith, c.self.invariant.1.few, as_many_numbers packets.items)))
