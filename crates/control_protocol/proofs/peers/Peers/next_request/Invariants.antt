use Rattle.std.proofs.Common.{◌≤◌, length}
use Rattle.control_protocol.proofs.peers.Peers.next_request.Given as goal

abbrev pub invariant-loop-peer : goal.invariant-loop-peer
invariant-loop-peer g l = length l.self ≤ length l.fn.self
