-- The certificate that is told to C.
use Rattle.std.specs.Prelude.{◌≡◌, ◌↔◌, ◌⊎◌, ◌≤◌, ◌/◌, ◌%◌, ◌^◌, ℕ, List, length, map}
use Rattle.rate_cert.specs.declared.request.Request.{Request}
use Rattle.rate_cert.specs.declared.certificate.Kept.{Kept}
use Rattle.rate_cert.specs.declared.certificate.Implied.{Implied}
use Rattle.rate_cert.specs.declared.certificate.Cert.{Cert}
use Rattle.sfu_c.specs.declared.faults.TheConstants.{DONE, NO_ROOM}
use Rattle.sfu_c.specs.declared.numbers.SfuRequest.{SfuRequest}
use Rattle.sfu_c.specs.declared.numbers.SfuKept.{SfuKept}
use Rattle.sfu_c.specs.declared.numbers.SfuImplied.{SfuImplied}
use Rattle.sfu_c.specs.declared.numbers.SfuCertified.{SfuCertified}
use Rattle.sfu_c.specs.Announcing.{told_request}
use Rattle.sfu_c.specs.Sending.{PutsInFront}

-- a kept entry, its pair's packets and bits by their upper and lower 64 bits
abbrev pub told_kept : Kept → SfuKept
told_kept k = record {
  packets_high = k.pair.packets / 2 ^ 64;
  packets_low = k.pair.packets % 2 ^ 64;
  bits_high = k.pair.bits / 2 ^ 64;
  bits_low = k.pair.bits % 2 ^ 64;
  seconds = k.pair.seconds;
  place = k.place;
}

-- an implied entry, number by number
abbrev pub told_implied : Implied → SfuImplied
told_implied i = record { place = i.place; a = i.a; b = i.b; p = i.p; q = i.q; r = i.r }

-- the answer that tells no sizes
abbrev pub tells_nothing : ℕ → SfuCertified
tells_nothing fault = record { fault = fault; live = 0; kept = 0; implied = 0 }

-- The answer says how many requests are live, and how many entries of each kind the certificate has. DONE, exactly if there is room
-- for all of them: they stand at the fronts. Else NO_ROOM, and the arrays are as they were.
pub record TellsCertificate (requests : List Request) (cert : Cert)
    (live_old live_new : List SfuRequest) (kept_old kept_new : List SfuKept)
    (implied_old implied_new : List SfuImplied) (answer : SfuCertified) : Type 0 where
  pub live : answer.live ≡ length requests
  pub kept : answer.kept ≡ length cert.kept.items
  pub implied : answer.implied ≡ length cert.implied.items
  pub numbered : (answer.fault ≡ DONE) ⊎ (answer.fault ≡ NO_ROOM)
  pub room : (answer.fault ≡ DONE) ↔ ((answer.live ≤ length live_old)
      × (answer.kept ≤ length kept_old) × (answer.implied ≤ length implied_old))
  pub live_written : answer.fault ≡ DONE → PutsInFront (map told_request requests) live_old live_new
  pub kept_written : answer.fault ≡ DONE
      → PutsInFront (map told_kept cert.kept.items) kept_old kept_new
  pub implied_written : answer.fault ≡ DONE
      → PutsInFront (map told_implied cert.implied.items) implied_old implied_new
  pub unwritten : answer.fault ≡ NO_ROOM
      → (live_new ≡ live_old) × (kept_new ≡ kept_old) × (implied_new ≡ implied_old)
