use Rattle.std.proofs.Common.{◌≡◌, ◌<◌, ℕ, length, get_or}
use Rattle.rate_cert.specs.declared.request.Request.{Request}
use Rattle.rate_cert.specs.declared.certificate.Kept.{Kept}
use Rattle.bounding_set.specs.Kept.{StandsAt, pairs_of}
use Rattle.bounding_set.proofs.places.find_places.Given as goal

abbrev pub invariant-loop-at : goal.invariant-loop-at
invariant-loop-at l = record {
  as_many : length l.kept ≡ length l.announced;
  pairs : pairs_of l.kept ≡ pairs_of l.fn.kept;
  stand : (i : ℕ) (d : Request) (e : Kept) → i < l.at → StandsAt l.rows (get_or l.announced i d) (get_or l.kept i e).place;
}
