use Rattle.std.proofs.Common.{◌≡◌, []}
use Rattle.std.specs.Prelude.{replicate}
use Rattle.policy.specs.HeldPackets.{packets_of}
use Rattle.policy.proofs.held_packets.HeldPackets.new.Given as goal

abbrev pub invariant-loop-endpoint : goal.invariant-loop-endpoint
invariant-loop-endpoint l = packets_of l.odd.items ≡ replicate l._endpoint []
