-- What a contract sees of `Bounds`.
use Rattle.std.specs.Prelude.{ℕ, List, not, is_some, count_by}
use Rattle.rate_cert.specs.declared.request.Request.{Request}
use Rattle.rate_cert.specs.declared.certificate.Cert.{Cert}
use Rattle.rate_cert.specs.Choice.{chosen_requests, IsSmallest}
use Rattle.rate_cert.specs.Certificate.{kept_places, IsCertified}
use Rattle.bounding_set.specs.Rows.{tuple_of}
use Rattle.bounding_set.specs.Canonical.{IsCanonical}
use Rattle.bounding_set.specs.Certificate.{IsGivenFor}

-- the live requests by rising owner, the certificate for the set that is announced for them, and how many tests
-- whether two lines imply a third the last change took
pub record State : Type 0 where
  pub rows : List Request
  pub cert : Cert
  pub steps : ℕ

-- the announced requests, by rising overhead
abbrev pub announced_of : State → List Request
announced_of s = chosen_requests s.rows (kept_places s.cert)

-- The certificate announces the canonical choice of the rows. It permits exactly the pairs that they together
-- permit, no smaller choice of them does, and the certificate, which is the one that is given, shows it.
pub record AnnouncesFor (rows : List Request) (cert : Cert) : Type 0 where
  pub canonical : IsCanonical rows (kept_places cert)
  pub smallest : IsSmallest rows (kept_places cert)
  pub certified : IsCertified rows cert
  pub given : IsGivenFor rows cert

-- the announced set is the smallest for the live requests
abbrev pub AnnouncesSmallest : State → Type 0
AnnouncesSmallest s = AnnouncesFor s.rows s.cert

-- how many requests of the one list have an owner of whom the other has none
abbrev pub dropped_count : List Request → List Request → ℕ
dropped_count before after = count_by (λ r. not (is_some (tuple_of after r.owner.0))) before
