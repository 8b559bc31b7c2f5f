use Rattle.std.proofs.Common.{◌≡◌, ◌+◌, ◌-◌, ◌*◌, ◌≤◌, ◌++◌, length, take, vec_len, vec_capacity}
use Rattle.std.specs.List.{flat_map}
use Rattle.rtcp_feedback.specs.Grammar.{nack_bytes}
use Rattle.rtcp_feedback.proofs.nack.write_nack.Given as goal

abbrev pub invariant-loop-entry : goal.invariant-loop-entry
invariant-loop-entry g l = record {
  written : l.out.items ≡ l.initial.out.items ++ flat_map nack_bytes (take l.entry-index l.entries);
  room : vec_len l.out + 4 * (length l.entries - l.entry-index) ≤ vec_capacity l.out;
}
