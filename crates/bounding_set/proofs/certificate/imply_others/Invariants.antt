use Rattle.std.proofs.Common.{◌≡◌, ◌≤◌, length, map, get_or}
use Rattle.rate_cert.specs.declared.request.Request.{Request}
use Rattle.rate_cert.specs.Certificate.{places_of}
use Rattle.bounding_set.specs.Certificate.{implied_by, dropped_places}
use Rattle.bounding_set.specs.Kept.{listed_of}
use Rattle.bounding_set.proofs.certificate.imply_others.Given as goal

abbrev pub invariant-loop-place : goal.invariant-loop-place
invariant-loop-place l = record {
  few : length l.implied.items ≤ l.place;
  entries : (d : Request) → l.implied.items
      ≡ map (λ place. implied_by (listed_of l.rows d l.kept) place (get_or l.rows place d).tuple.overhead)
      (dropped_places l.place (places_of l.kept));
}
