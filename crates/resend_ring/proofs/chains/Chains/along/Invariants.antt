use Rattle.std.specs.Prelude.{length}
use Rattle.resend_ring.specs.Chains.{sequence_numbers}
use Rattle.resend_ring.proofs.WalkLemmas.{IsWalked}
use Rattle.resend_ring.proofs.chains.Chains.along.Given as goal

abbrev pub invariant-loop-turn : goal.invariant-loop-turn
invariant-loop-turn g l =
    IsWalked (length l.self.heads.items) l.seq l.self.links.items (sequence_numbers l.packets.items) l.head l._turn l.newer l.back
