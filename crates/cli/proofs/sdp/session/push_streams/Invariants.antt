use Rattle.std.proofs.Common.{◌≡◌, ◌++◌, flat_map, take}
use Rattle.std.specs.String.{string_bytes}
use Rattle.cli.specs.Session.{stream_text}
use Rattle.cli.proofs.sdp.session.push_streams.Given as goal

abbrev pub invariant-loop-stream : goal.invariant-loop-stream
invariant-loop-stream l = string_bytes l.text ≡ string_bytes l.fn.text ++ flat_map stream_text (take l.stream-index l.streams)
