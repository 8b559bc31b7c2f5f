-- What a verdict owes to the numbers that were given.
use Rattle.std.proofs.Common.{◌≡◌, ◌≢◌, ℕ, ◌≤◌, ◌↔◌, List, map, subst, arith}
use Rattle.std.specs.Prelude.{All}
use Rattle.rate_cert.specs.Certificate.{MeetsConditions}
use Rattle.tmmbr_c.specs.declared.faults.TheConstants.{DONE, NOT_NAMED, REQUEST_RANGE, KEPT_RANGE, IMPLIED_RANGE}
use Rattle.tmmbr_c.specs.declared.numbers.TmmbrRequest.{TmmbrRequest}
use Rattle.tmmbr_c.specs.declared.numbers.TmmbrKept.{TmmbrKept}
use Rattle.tmmbr_c.specs.declared.numbers.TmmbrImplied.{TmmbrImplied}
use Rattle.tmmbr_c.specs.declared.numbers.TmmbrVerdict.{TmmbrVerdict}
use Rattle.tmmbr_c.specs.Numbers.{IsRequestInRange, IsKeptInRange, IsImpliedInRange, asked_request, kept_entry, implied_entry}
use Rattle.tmmbr_c.specs.Verdict.{CanBeRead, IsUnreadRequest, IsUnreadKept, IsUnreadImplied, TellsFirstFault}
use Rattle.tmmbr_c.proofs.FirstLemmas.{one_first, no_first}

module _ (asked : List TmmbrRequest) (kept : List TmmbrKept) (implied : List TmmbrImplied) (v : TmmbrVerdict) where
  no_request : TmmbrRequest
  no_request = record { ssrc = 0; exponent = 0; mantissa = 0; overhead = 0 }

  no_kept : TmmbrKept
  no_kept = record { packets_high = 0; packets_low = 0; bits_high = 0; bits_low = 0; seconds = 0; place = 0 }

  no_implied : TmmbrImplied
  no_implied = record { place = 0; a = 0; b = 0; p = 0; q = 0; r = 0 }

  -- if numbers can't be read, the refusal is one of three, and nothing is said of a certificate
  pub record Unread : Type 0 where
    pub readable : (v.fault ≤ NOT_NAMED) ↔ CanBeRead asked kept implied
    pub certified : CanBeRead asked kept implied
        → ((v.fault ≡ DONE) ↔ MeetsConditions (map asked_request asked) (map kept_entry kept) (map implied_entry implied))
    pub first_fault : CanBeRead asked kept implied → v.fault ≢ DONE
        → TellsFirstFault (map asked_request asked) (map kept_entry kept) (map implied_entry implied) v
    pub request_range : (place : ℕ) → (((v.fault ≡ REQUEST_RANGE) × (v.place ≡ place)) ↔ IsUnreadRequest asked kept implied place)
    pub kept_range : (place : ℕ) → (((v.fault ≡ KEPT_RANGE) × (v.place ≡ place)) ↔ IsUnreadKept asked kept implied place)
    pub implied_range : (place : ℕ) → (((v.fault ≡ IMPLIED_RANGE) × (v.place ≡ place)) ↔ IsUnreadImplied asked kept implied place)

  pub unread_request : v.fault ≡ REQUEST_RANGE → IsUnreadRequest asked kept implied v.place → Unread
  unread_request fault unread =
      let never : All IsRequestInRange asked → ⊥ = λ all. no_first IsRequestInRange asked no_request v.place all unread.first in
      record {
        readable = (λ le. absurd (omega arith), λ is. absurd (never is.requests));
        certified = λ is. absurd (never is.requests);
        first_fault = λ is not_done. absurd (never is.requests);
        request_range = λ place. (
          λ is. subst (IsUnreadRequest asked kept implied) is.1 unread,
          λ is. (fault, one_first IsRequestInRange asked no_request v.place place unread.first is.first),
        );
        kept_range = λ place. (λ is. absurd (omega (arith, is.0)), λ is. absurd (never is.requests));
        implied_range = λ place. (λ is. absurd (omega (arith, is.0)), λ is. absurd (never is.requests));
      }

  pub unread_kept : v.fault ≡ KEPT_RANGE → IsUnreadKept asked kept implied v.place → Unread
  unread_kept fault unread =
      let never : All IsKeptInRange kept → ⊥ = λ all. no_first IsKeptInRange kept no_kept v.place all unread.first in
      record {
        readable = (λ le. absurd (omega arith), λ is. absurd (never is.kept_entries));
        certified = λ is. absurd (never is.kept_entries);
        first_fault = λ is not_done. absurd (never is.kept_entries);
        request_range = λ place. (
          λ is. absurd (omega (arith, is.0)),
          λ is. absurd (no_first IsRequestInRange asked no_request place unread.requests is.first),
        );
        kept_range = λ place. (
          λ is. subst (IsUnreadKept asked kept implied) is.1 unread,
          λ is. (fault, one_first IsKeptInRange kept no_kept v.place place unread.first is.first),
        );
        implied_range = λ place. (λ is. absurd (omega (arith, is.0)), λ is. absurd (never is.kept_entries));
      }

  pub unread_implied : v.fault ≡ IMPLIED_RANGE → IsUnreadImplied asked kept implied v.place → Unread
  unread_implied fault unread =
      let never : All IsImpliedInRange implied → ⊥ = λ all. no_first IsImpliedInRange implied no_implied v.place all unread.first in
      record {
        readable = (λ le. absurd (omega arith), λ is. absurd (never is.implied_entries));
        certified = λ is. absurd (never is.implied_entries);
        first_fault = λ is not_done. absurd (never is.implied_entries);
        request_range = λ place. (
          λ is. absurd (omega (arith, is.0)),
          λ is. absurd (no_first IsRequestInRange asked no_request place unread.requests is.first),
        );
        kept_range = λ place. (
          λ is. absurd (omega (arith, is.0)),
          λ is. absurd (no_first IsKeptInRange kept no_kept place unread.kept_entries is.first),
        );
        implied_range = λ place. (
          λ is. subst (IsUnreadImplied asked kept implied) is.1 unread,
          λ is. (fault, one_first IsImpliedInRange implied no_implied v.place place unread.first is.first),
        );
      }

  -- if they can be read, nothing is refused
  pub read_refuses_none : CanBeRead asked kept implied → v.fault ≤ NOT_NAMED → record {
    request_range : (place : ℕ) → (((v.fault ≡ REQUEST_RANGE) × (v.place ≡ place)) ↔ IsUnreadRequest asked kept implied place);
    kept_range : (place : ℕ) → (((v.fault ≡ KEPT_RANGE) × (v.place ≡ place)) ↔ IsUnreadKept asked kept implied place);
    implied_range : (place : ℕ) → (((v.fault ≡ IMPLIED_RANGE) × (v.place ≡ place)) ↔ IsUnreadImplied asked kept implied place);
  }
  read_refuses_none is le = record {
    request_range = λ place. (
      λ said. absurd (omega (arith, said.0)),
      λ unread. absurd (no_first IsRequestInRange asked no_request place is.requests unread.first),
    );
    kept_range = λ place. (
      λ said. absurd (omega (arith, said.0)),
      λ unread. absurd (no_first IsKeptInRange kept no_kept place is.kept_entries unread.first),
    );
    implied_range = λ place. (
      λ said. absurd (omega (arith, said.0)),
      λ unread. absurd (no_first IsImpliedInRange implied no_implied place is.implied_entries unread.first),
    );
  }
