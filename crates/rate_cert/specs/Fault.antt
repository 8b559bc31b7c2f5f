-- Which fault a certificate has.
use Rattle.std.specs.Prelude.{ℕ, ◌<◌, List, length, All, EachIndex}
use Rattle.rate_cert.specs.declared.request.Request.{Request}
use Rattle.rate_cert.specs.declared.certificate.Kept.{Kept}
use Rattle.rate_cert.specs.declared.certificate.Implied.{Implied}
use Rattle.rate_cert.specs.declared.certificate.Cert.{Cert}
use Rattle.rate_cert.specs.declared.fault.CertFault.{CertFault}
use Rattle.rate_cert.specs.declared.fault.CertFault.TheVariants.{Place, PairNotForbidden, TwoPairsForbidden, NotImplied, Missing}
use Rattle.rate_cert.specs.Certificate.{HasPlaces, ForbidsItsPair, ForbidsOnePairAt, IsImpliedAt, IsNamed}

-- the fact fails at this place of the list, and holds at each place before it
pub record FailsFirstAt (requests : List Request) (Fact : ℕ → Type 0) (place : ℕ) : Type 0 where
  pub in_range : place < length requests
  pub fails : ¬ Fact place
  pub before : (k : ℕ) → k < place → Fact k

-- The fault is of the first condition that fails, and shows the least place where it fails.
abbrev pub FailsFirst : List Request → List Kept → List Implied → CertFault → Type 0
FailsFirst requests kept implied Place = ¬ HasPlaces requests kept implied
FailsFirst requests kept implied PairNotForbidden =
    HasPlaces requests kept implied
    × (¬ All (ForbidsItsPair requests) kept)
FailsFirst requests kept implied (TwoPairsForbidden place) =
    HasPlaces requests kept implied
    × All (ForbidsItsPair requests) kept
    × FailsFirstAt requests (ForbidsOnePairAt requests kept) place
FailsFirst requests kept implied (NotImplied place) =
    HasPlaces requests kept implied
    × All (ForbidsItsPair requests) kept
    × EachIndex requests (ForbidsOnePairAt requests kept)
    × FailsFirstAt requests (IsImpliedAt requests implied) place
FailsFirst requests kept implied (Missing place) =
    HasPlaces requests kept implied
    × All (ForbidsItsPair requests) kept
    × EachIndex requests (ForbidsOnePairAt requests kept)
    × EachIndex requests (IsImpliedAt requests implied)
    × FailsFirstAt requests (IsNamed kept implied) place

-- the first condition that the certificate fails, and the least place at which it does
abbrev pub IsFirstCertFault : List Request → Cert → CertFault → Type 0
IsFirstCertFault requests cert fault = FailsFirst requests cert.kept.items cert.implied.items fault
