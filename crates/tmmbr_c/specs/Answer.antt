-- What is answered to C.
use Rattle.std.specs.Prelude.{◌≡◌, ◌≢◌, ℕ, ◌+◌, ◌<◌, ◌≤◌, ◌⊎◌, List, length, map, take, drop, All, AllPairs}
use Rattle.rate_cert.specs.declared.request.Request.{Request}
use Rattle.rate_cert.specs.declared.certificate.Kept.{Kept}
use Rattle.rate_cert.specs.declared.certificate.Implied.{Implied}
use Rattle.rate_cert.specs.declared.certificate.TheConstants.{MAX_REQUESTS}
use Rattle.tmmbr_c.specs.declared.numbers.TmmbrRequest.{TmmbrRequest}
use Rattle.tmmbr_c.specs.declared.numbers.TmmbrKept.{TmmbrKept}
use Rattle.tmmbr_c.specs.declared.numbers.TmmbrImplied.{TmmbrImplied}
use Rattle.tmmbr_c.specs.declared.numbers.TmmbrAnswer.{TmmbrAnswer}
use Rattle.tmmbr_c.specs.First.{IsFirstFailing, IsFirstRepeated}
use Rattle.tmmbr_c.specs.Numbers.{IsRequestInRange, IsKeptInRange, IsImpliedInRange, kept_entry, implied_entry}
use Rattle.tmmbr_c.specs.Renumbering.{AnnouncesEntries}

-- ---- which requests are answered

-- as many as may be, each in range, no two of one owner
pub record IsAccepted (asked : List TmmbrRequest) : Type 0 where
  pub few : length asked ≤ MAX_REQUESTS
  pub in_range : All IsRequestInRange asked
  pub owners_differ : AllPairs (λ x y. x.ssrc ≢ y.ssrc) asked

-- the request at this place is the first that is out of range, of as many as may be
pub record IsRefusedRange (asked : List TmmbrRequest) (place : ℕ) : Type 0 where
  pub few : length asked ≤ MAX_REQUESTS
  pub first : IsFirstFailing IsRequestInRange asked place

-- the request at this place is the first whose owner has an earlier one, of requests in range
pub record IsRefusedOwner (asked : List TmmbrRequest) (place : ℕ) : Type 0 where
  pub few : length asked ≤ MAX_REQUESTS
  pub in_range : All IsRequestInRange asked
  pub first : IsFirstRepeated asked place

-- ---- the certificate

-- the certificate for these requests has so many kept and implied entries, which together are as
-- many as the requests
pub record HasSizes (requests : List Request) (kept_count implied_count : ℕ) : Type 0 where
  pub kept : List Kept
  pub implied : List Implied
  pub announces : AnnouncesEntries requests kept implied
  pub kept_is : length kept ≡ kept_count
  pub implied_is : length implied ≡ implied_count
  pub as_many : kept_count + implied_count ≡ length requests

-- one of the arrays is shorter than the certificate's list
abbrev pub HasNoRoom : List TmmbrKept → List TmmbrImplied → TmmbrAnswer → Type 0
HasNoRoom kept implied answer =
    (length kept < answer.kept) ⊎ (length implied < answer.implied)

-- the front of the arrays, as far as the answer says, is a certificate that announces the canonical
-- choice of the requests (RFC 5104, section 3.5.4.2)
abbrev pub AnnouncesIn : List Request → List TmmbrKept → List TmmbrImplied → TmmbrAnswer → Type 0
AnnouncesIn requests kept implied answer =
    AnnouncesEntries requests (map kept_entry (take answer.kept kept))
    (map implied_entry (take answer.implied implied))

-- its entries are in range
abbrev pub AreInRange : List TmmbrKept → List TmmbrImplied → TmmbrAnswer → Type 0
AreInRange kept implied answer =
    All IsKeptInRange (take answer.kept kept) × All IsImpliedInRange (take answer.implied implied)

-- the rest of the array is as it was
abbrev pub KeepsRest : {A : Type 0} → ℕ → List A → List A → Type 0
KeepsRest count old new = drop count new ≡ drop count old
