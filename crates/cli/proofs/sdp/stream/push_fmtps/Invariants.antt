use Rattle.std.proofs.Common.{◌≡◌, ◌++◌, flat_map, take}
use Rattle.std.specs.String.{string_bytes}
use Rattle.cli.specs.Session.{fmtp_line}
use Rattle.cli.proofs.sdp.stream.push_fmtps.Given as goal

abbrev pub invariant-loop-parameters : goal.invariant-loop-parameters
invariant-loop-parameters l = string_bytes l.text ≡ string_bytes l.fn.text ++ flat_map fmtp_line (take l.parameters-index l.fmtp)
