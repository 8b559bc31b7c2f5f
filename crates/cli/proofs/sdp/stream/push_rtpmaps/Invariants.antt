use Rattle.std.proofs.Common.{◌≡◌, ◌++◌, flat_map, take}
use Rattle.std.specs.String.{string_bytes}
use Rattle.cli.specs.Session.{rtpmap_line}
use Rattle.cli.proofs.sdp.stream.push_rtpmaps.Given as goal

abbrev pub invariant-loop-encoding : goal.invariant-loop-encoding
invariant-loop-encoding l = string_bytes l.text ≡ string_bytes l.fn.text ++ flat_map rtpmap_line (take l.encoding-index l.rtpmap)
