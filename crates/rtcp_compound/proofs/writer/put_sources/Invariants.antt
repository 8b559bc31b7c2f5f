use Rattle.std.proofs.Common.{◌≡◌, ◌+◌, ◌*◌, ◌^◌, ◌<◌, ◌≤◌, ◌++◌, map, take, vec_len, vec_capacity}
use Rattle.std.specs.List.{All, flat_map}
use Rattle.byteorder.specs.Endian.{big_bytes}
use Rattle.rtcp_compound.proofs.writer.put_sources.Given as goal

abbrev pub invariant-loop-source : goal.invariant-loop-source
invariant-loop-source g l = record {
  items : l.out.items ≡ l.initial.out.items ++ flat_map (big_bytes 4) (map (λ source. source.0) (take l.source-index l.sources));
  each : All (λ source. source < 2 ^ 32) (map (λ source. source.0) (take l.source-index l.sources));
  len : vec_len l.out ≡ vec_len l.initial.out + 4 * l.source-index;
  capacity : vec_capacity l.initial.out ≤ vec_capacity l.out;
}
