-- An envelope with a gap, where a line was taken out.
use Rattle.std.specs.Prelude.{ℕ, ◌-◌, ◌<◌, ◌≤◌, List, length, All, Contains}
use Rattle.std.specs.List.{HoldsAt}
use Rattle.rate_cert.specs.declared.request.Request.{Request}
use Rattle.bounding_set.specs.Canonical.{HasSameLine, StopsMedia}
use Rattle.bounding_set.specs.Envelope.{IsHull, Covers}

-- A hull of rows that send, each with the least owner of its line. It covers the rows of no more overhead than the line
-- before the place, and those of no less than the line at the place.
pub record IsEnvelopeButAt (rows lines : List Request) (place : ℕ) : Type 0 where
  pub in_range : place ≤ length lines
  pub hull : IsHull lines
  pub left : 0 < place → All (λ r. ¬ StopsMedia r
      → HoldsAt (λ l. r.tuple.overhead ≤ l.tuple.overhead) lines (place - 1) → Covers lines r) rows
  pub right : place < length lines → All (λ r. ¬ StopsMedia r
      → HoldsAt (λ l. l.tuple.overhead ≤ r.tuple.overhead) lines place → Covers lines r) rows
  pub are_rows : All (Contains rows) lines
  pub send : All (λ l. ¬ StopsMedia l) lines
  pub least_owner : All (λ x. All (λ y. HasSameLine x y → x.owner.0 ≤ y.owner.0) rows) lines
