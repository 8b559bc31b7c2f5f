use Rattle.std.proofs.Common.{◌≡◌, drop, map}
use Rattle.std.specs.Prelude.{string_bytes}
use Rattle.settings_toml.specs.Formats.{has_stray}
use Rattle.settings_toml.proofs.formats.has_stray.Given as goal

abbrev pub invariant-loop-format : goal.invariant-loop-format
invariant-loop-format l = has_stray (map string_bytes l.rtpmap) (map string_bytes (drop l.format-index l.fmtp)) ≡ has_stray (map string_bytes l.rtpmap) (map string_bytes l.fmtp)
