use Rattle.std.proofs.Common.{◌≡◌, ◌++◌, map, take}
use Rattle.std.specs.List.{flat_map}
use Rattle.rtcp_compound.specs.Grammar.{packet_bytes}
use Rattle.datagram.specs.Spelling.{ask_packet}
use Rattle.datagram.proofs.spelling.push_asks.Given as goal

abbrev pub invariant-loop-ask : goal.invariant-loop-ask
invariant-loop-ask l = l.out.items ≡ l.fn.out.items ++ flat_map packet_bytes (map (ask_packet l.speaker.0) (take l.ask-index l.asks))
