use Rattle.std.proofs.Common.{◌≡◌, drop, map}
use Rattle.std.specs.Prelude.{string_bytes}
use Rattle.settings_toml.specs.Formats.{is_listed}
use Rattle.settings_toml.proofs.formats.is_listed.Given as goal

abbrev pub invariant-loop-encoding : goal.invariant-loop-encoding
invariant-loop-encoding l = is_listed (map string_bytes (drop l.encoding-index l.rtpmap)) l.payload ≡ is_listed (map string_bytes l.rtpmap) l.payload
