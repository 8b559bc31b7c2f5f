use Rattle.std.proofs.Common.{◌≡◌, vec_len}
use Rattle.std.specs.Prelude.{map, replicate}
use Rattle.udp.proofs.socket.socket_sinks.Given as goal

abbrev pub invariant-loop-sink : goal.invariant-loop-sink
invariant-loop-sink l = (vec_len l.sinks ≡ l._sink) × (map (λ sink. sink.sockets) l.sinks.items ≡ replicate l._sink l.sockets)
