use Rattle.std.proofs.Common.{◌∙◌, ap, arith, map, sym}
use Rattle.control_protocol.specs.Places.{peer_of}
use Rattle.control_protocol.specs.declared.peer.Peer.{Peer}
use Rattle.control_protocol.proofs.PlaceLemmas.{may_stay_of}
use Rattle.control_protocol.proofs.peers.Peers.may_stay.Goals as goal

pub returns : goal.returns
returns g c =
    may_stay_of (λ (peer : Peer g.row.S.Denot). peer_of peer.since_ms peer.stays) c.as_slice.result.now c.args.self.now
    c.saturating_sub-others.result c.count_staying.result
    (sym c.self.view_is ∙ ap (map (λ (peer : Peer g.row.S.Denot). peer_of peer.since_ms peer.stays)) (sym c.as_slice.ensures.value))
    (omega (arith, c.saturating_sub-others.ensures, c.len.ensures, c.as_slice.ensures.len)) c.count_staying.ensures
