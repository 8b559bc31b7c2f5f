use Rattle.std.proofs.Common.{ap, sym, true}
use Rattle.control_protocol.specs.Places.{peer_of}
use Rattle.control_protocol.specs.declared.peer.Peer.{Peer}
use Rattle.control_protocol.proofs.PlaceLemmas.{last_stays}
use Rattle.control_protocol.proofs.peers.let_stay_at.Goals as goal

pub returns : goal.returns
returns g c =
    last_stays (λ peer. peer_of peer.since_ms peer.stays) c.args.peers.now c.args.number c.index-peers-number.result _ c.requires
    c.index-peers-number.is (ap (λ (peer : Peer g.row.S.Denot). peer_of peer.since_ms true) (sym c.index-peers-number.is))
