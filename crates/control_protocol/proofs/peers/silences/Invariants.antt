use Rattle.std.proofs.Common.{◌≡◌}
use Rattle.std.specs.Prelude.{map, take}
use Rattle.control_protocol.specs.Places.{peer_of, silences_at}
use Rattle.control_protocol.proofs.peers.silences.Given as goal

abbrev pub invariant-loop-peer : goal.invariant-loop-peer
invariant-loop-peer g l =
    l.all.items ≡ silences_at l.moment (map (λ peer. peer_of peer.since_ms peer.stays) (take l.peer-index l.peers))
