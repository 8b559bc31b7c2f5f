-- What is answered for a certificate that C gives.
use Rattle.std.specs.Prelude.{◌≡◌, ℕ, ◌<◌, ◌⊎◌, List, length, map, All}
use Rattle.rate_cert.specs.declared.request.Request.{Request}
use Rattle.rate_cert.specs.declared.certificate.Kept.{Kept}
use Rattle.rate_cert.specs.declared.certificate.Implied.{Implied}
use Rattle.rate_cert.specs.declared.certificate.TheConstants.{MAX_REQUESTS}
use Rattle.rate_cert.specs.declared.fault.CertFault.{CertFault}
use Rattle.rate_cert.specs.declared.fault.CertFault.TheVariants.{Place, PairNotForbidden, TwoPairsForbidden, NotImplied, Missing}
use Rattle.rate_cert.specs.Certificate.{MeetsConditions}
use Rattle.rate_cert.specs.Fault.{FailsFirst}
use Rattle.tmmbr_c.specs.declared.faults.TheConstants.{PLACE, PAIR_PERMITTED, TWO_PAIRS, NOT_IMPLIED, NOT_NAMED}
use Rattle.tmmbr_c.specs.declared.numbers.TmmbrRequest.{TmmbrRequest}
use Rattle.tmmbr_c.specs.declared.numbers.TmmbrKept.{TmmbrKept}
use Rattle.tmmbr_c.specs.declared.numbers.TmmbrImplied.{TmmbrImplied}
use Rattle.tmmbr_c.specs.declared.numbers.TmmbrVerdict.{TmmbrVerdict}
use Rattle.tmmbr_c.specs.First.{IsFirstFailing}
use Rattle.tmmbr_c.specs.Numbers.{IsRequestInRange, IsKeptInRange, IsImpliedInRange, asked_request, kept_entry, implied_entry}

-- ---- what is read

-- more requests, kept entries or implied ones than a certificate holds
abbrev pub HasTooMany : List TmmbrRequest → List TmmbrKept → List TmmbrImplied → Type 0
HasTooMany asked kept implied =
    (MAX_REQUESTS < length asked) ⊎ (MAX_REQUESTS < length kept) ⊎ (MAX_REQUESTS < length implied)

-- all numbers of requests and certificate are in range, and there are not too many of either
pub record CanBeRead (asked : List TmmbrRequest) (kept : List TmmbrKept)
    (implied : List TmmbrImplied) : Type 0 where
  pub few : ¬ HasTooMany asked kept implied
  pub requests : All IsRequestInRange asked
  pub kept_entries : All IsKeptInRange kept
  pub implied_entries : All IsImpliedInRange implied

-- the request at this place is the first that can't be read
pub record IsUnreadRequest (asked : List TmmbrRequest) (kept : List TmmbrKept)
    (implied : List TmmbrImplied) (place : ℕ) : Type 0 where
  pub few : ¬ HasTooMany asked kept implied
  pub first : IsFirstFailing IsRequestInRange asked place

-- the requests can be read, and the kept entry at this place is the first that can't
pub record IsUnreadKept (asked : List TmmbrRequest) (kept : List TmmbrKept)
    (implied : List TmmbrImplied) (place : ℕ) : Type 0 where
  pub few : ¬ HasTooMany asked kept implied
  pub requests : All IsRequestInRange asked
  pub first : IsFirstFailing IsKeptInRange kept place

-- those and the kept entries can be read, and the implied entry at this place is the first that
-- can't
pub record IsUnreadImplied (asked : List TmmbrRequest) (kept : List TmmbrKept)
    (implied : List TmmbrImplied) (place : ℕ) : Type 0 where
  pub few : ¬ HasTooMany asked kept implied
  pub requests : All IsRequestInRange asked
  pub kept_entries : All IsKeptInRange kept
  pub first : IsFirstFailing IsImpliedInRange implied place

-- ---- what is answered

-- the entries are a certificate that holds of the requests
abbrev pub IsCertificateFor : List TmmbrRequest → List TmmbrKept → List TmmbrImplied → Type 0
IsCertificateFor asked kept implied =
    MeetsConditions (map asked_request asked) (map kept_entry kept) (map implied_entry implied)

-- the number of a condition, and the place that its fault shows, or 0
abbrev pub number_of_fault : CertFault → ℕ
number_of_fault Place = PLACE
number_of_fault PairNotForbidden = PAIR_PERMITTED
number_of_fault (TwoPairsForbidden place) = TWO_PAIRS
number_of_fault (NotImplied place) = NOT_IMPLIED
number_of_fault (Missing place) = NOT_NAMED

abbrev pub place_of_fault : CertFault → ℕ
place_of_fault Place = 0
place_of_fault PairNotForbidden = 0
place_of_fault (TwoPairsForbidden place) = place
place_of_fault (NotImplied place) = place
place_of_fault (Missing place) = place

-- the verdict says this fault
pub record TellsFault (v : TmmbrVerdict) (fault : CertFault) : Type 0 where
  pub number : v.fault ≡ number_of_fault fault
  pub place : v.place ≡ place_of_fault fault

-- the verdict has the number and the place of the first condition that fails
pub record TellsFirstFault (requests : List Request) (kept : List Kept) (implied : List Implied)
    (v : TmmbrVerdict) : Type 0 where
  pub fault : CertFault
  pub said : TellsFault v fault
  pub is_first : FailsFirst requests kept implied fault
