-- Requests and certificates by the numbers that cross to C and back. A number out of range is refused
-- where it comes in; here the nearest one in range stands for it, so that each struct is a request or
-- an entry.
use Rattle.std.specs.Prelude.{ℕ, ◌+◌, ◌*◌, ◌-◌, ◌^◌, ◌<◌, ◌≤◌, min, max}
use Rattle.std.proofs.Common.{lit<, lit≤}
use Rattle.std.proofs.Math.Nat.{lt_of_le_of_lt, min-le_right, le-max_left, max-le}
use Rattle.rate_cert.specs.declared.request.Request.{Request}
use Rattle.rate_cert.specs.declared.certificate.Kept.{Kept}
use Rattle.rate_cert.specs.declared.certificate.Implied.{Implied}
use Rattle.tmmbr_c.specs.declared.numbers.TmmbrRequest.{TmmbrRequest}
use Rattle.tmmbr_c.specs.declared.numbers.TmmbrKept.{TmmbrKept}
use Rattle.tmmbr_c.specs.declared.numbers.TmmbrImplied.{TmmbrImplied}

-- a request's parts fit those of a word: 6 bits, 17 and 9 (RFC 5104, section 4.2.1.1)
abbrev pub IsRequestInRange : TmmbrRequest → Type 0
IsRequestInRange c = (c.exponent < 64) × (c.mantissa < 131072) × (c.overhead < 512)

-- the request that the numbers of C are, with the nearest number in range for one out of
-- range (RFC 5104, section 4.2.1.1)
abbrev pub asked_request : TmmbrRequest → Request
asked_request c = record {
  owner = record { 0 = c.ssrc };
  tuple = record {
    exp = min c.exponent 63;
    mantissa = min c.mantissa 131071;
    overhead = min c.overhead 511;
    exp_in_range = lt_of_le_of_lt (min-le_right c.exponent 63) (lit< tt);
    mantissa_in_range = lt_of_le_of_lt (min-le_right c.mantissa 131071) (lit< tt);
    overhead_in_range = lt_of_le_of_lt (min-le_right c.overhead 511) (lit< tt);
  };
}

-- the number of which these are the upper and the lower 64 bits
abbrev pub joined : ℕ → ℕ → ℕ
joined high low = high * 2 ^ 64 + low

-- a kept entry has packets and bits below 2^100 in 1 to 16383 seconds, and a place of 16 bits
pub record IsKeptInRange (c : TmmbrKept) : Type 0 where
  pub packets : joined c.packets_high c.packets_low < 2 ^ 100
  pub bits : joined c.bits_high c.bits_low < 2 ^ 100
  pub some_time : 1 ≤ c.seconds
  pub seconds : c.seconds < 2 ^ 14
  pub place : c.place < 2 ^ 16

-- the kept entry that the numbers of C are, with the nearest number in range
-- for one of its pair out of range
abbrev pub kept_entry : TmmbrKept → Kept
kept_entry c =
    let most = 2 ^ 100 - 1 in
    let packets = joined c.packets_high c.packets_low in
    let bits = joined c.bits_high c.bits_low in
    record {
      place = c.place;
      pair = record {
        packets = min packets most;
        bits = min bits most;
        seconds = max 1 (min c.seconds 16383);
        packets_in_range = lt_of_le_of_lt (min-le_right packets most) (lit< tt);
        bits_in_range = lt_of_le_of_lt (min-le_right bits most) (lit< tt);
        some_time = le-max_left 1 (min c.seconds 16383);
        seconds_in_range =
            lt_of_le_of_lt (max-le (lit≤ tt) (min-le_right c.seconds 16383)) (lit< tt);
      };
    }

-- each number of an implied entry has 16 bits
pub record IsImpliedInRange (c : TmmbrImplied) : Type 0 where
  pub place : c.place < 2 ^ 16
  pub a : c.a < 2 ^ 16
  pub b : c.b < 2 ^ 16
  pub p : c.p < 2 ^ 16
  pub q : c.q < 2 ^ 16
  pub r : c.r < 2 ^ 16

-- the implied entry that the numbers of C are
abbrev pub implied_entry : TmmbrImplied → Implied
implied_entry c = record { place = c.place; a = c.a; b = c.b; p = c.p; q = c.q; r = c.r }
