use Rattle.std.proofs.Common.{◌≡◌, ◌++◌, replicate}
use Rattle.std.specs.List.{flat_map}
use Rattle.rtcp_compound.specs.Grammar.{packet_bytes}
use Rattle.datagram.specs.Spelling.{notice_packet}
use Rattle.datagram.proofs.spelling.push_notices.Given as goal

abbrev pub invariant-loop-notice : goal.invariant-loop-notice
invariant-loop-notice l = l.out.items ≡ l.fn.out.items ++ flat_map packet_bytes (replicate l._notice (notice_packet l.speaker.0))
