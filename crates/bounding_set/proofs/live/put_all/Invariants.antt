use Rattle.std.proofs.Common.{◌≡◌, ◌+◌, ◌*◌, ◌≤◌, length, take}
use Rattle.bounding_set.specs.Envelope.{IsEnvelopeOf}
use Rattle.bounding_set.proofs.live.put_all.Given as goal

abbrev pub invariant-loop-request : goal.invariant-loop-request
invariant-loop-request l = record {
  rows : l.rows.items ≡ take l.request-index l.requests;
  envelope : IsEnvelopeOf l.rows.items l.lines.items;
  each : length l.lines.items ≤ l.count + 1;
  few : l.count + length l.lines.items ≤ 5 * l.request-index;
}
