-- The requests that are told to C.
use Rattle.std.specs.Prelude.{◌≡◌, ◌↔◌, ◌⊎◌, ◌≤◌, List, length, map}
use Rattle.rate_cert.specs.declared.request.Request.{Request}
use Rattle.sfu_c.specs.declared.faults.TheConstants.{DONE, NO_ROOM}
use Rattle.sfu_c.specs.declared.numbers.SfuRequest.{SfuRequest}
use Rattle.sfu_c.specs.declared.numbers.SfuAnnounced.{SfuAnnounced}
use Rattle.sfu_c.specs.Sending.{PutsInFront}

-- a request by the parts of its word (RFC 5104, section 4.2.1.1)
abbrev pub told_request : Request → SfuRequest
told_request r = record {
  ssrc = r.owner.0;
  exponent = r.tuple.exp;
  mantissa = r.tuple.mantissa;
  overhead = r.tuple.overhead;
}

-- The answer says how many requests there are. DONE, exactly if there is room for them: they stand at the front. Else NO_ROOM, and
-- the array is as it was (RFC 5104, section 4.2.1.1).
pub record TellsRequests (requests : List Request) (old new : List SfuRequest)
    (answer : SfuAnnounced) : Type 0 where
  pub count : answer.count ≡ length requests
  pub numbered : (answer.fault ≡ DONE) ⊎ (answer.fault ≡ NO_ROOM)
  pub room : (answer.fault ≡ DONE) ↔ (length requests ≤ length old)
  pub written : answer.fault ≡ DONE → PutsInFront (map told_request requests) old new
  pub unwritten : answer.fault ≡ NO_ROOM → new ≡ old
