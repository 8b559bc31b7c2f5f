-- The live rows together with their envelope.
use Rattle.std.specs.Prelude.{◌≡◌, ℕ, List, Any}
use Rattle.rate_cert.specs.declared.request.Request.{Request}
use Rattle.bounding_set.specs.Envelope.{IsEnvelopeOf}
use Rattle.bounding_set.specs.Rows.{HasRisingOwners}

-- the rows are by rising owner, and the lines are the envelope of those whose rate isn't 0 (RFC 5104, section 3.5.4.2)
pub record HoldsLines (rows lines : List Request) : Type 0 where
  pub rising : HasRisingOwners rows
  pub envelope : IsEnvelopeOf rows lines

-- one of the lines is the owner's
abbrev pub HasLineOf : ℕ → List Request → Type 0
HasLineOf owner lines = Any (λ l. l.owner.0 ≡ owner) lines
