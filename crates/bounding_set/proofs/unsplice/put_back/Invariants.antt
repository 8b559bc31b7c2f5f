use Rattle.std.proofs.Common.{◌+◌, ◌*◌, ◌≤◌, length}
use Rattle.rate_cert.specs.declared.certificate.TheConstants.{MAX_REQUESTS}
use Rattle.bounding_set.specs.Envelope.{IsEnvelopeOf}
use Rattle.bounding_set.proofs.PutBackLemmas.{considered}
use Rattle.bounding_set.proofs.unsplice.put_back.Given as goal

abbrev pub invariant-loop-row : goal.invariant-loop-row
invariant-loop-row l = record {
  envelope : IsEnvelopeOf (considered l.rows l.fn.lines.items l.row-index) l.lines.items;
  risen : l.fn.count ≤ l.count;
  grows : length l.lines.items + l.fn.count ≤ length l.fn.lines.items + l.count + 1;
  counted : l.count ≤ l.fn.count + l.row-index * (MAX_REQUESTS + 4);
}
