-- Which datagrams of an endpoint are heard: so many a millisecond, and what it didn't send in the last second. What comes beyond is let go.
use Rattle.std.specs.Prelude.{◌≡◌, ◌==◌, ◌≤◌, ◌<◌, ◌↔◌, ℕ, ◌+◌, ◌-◌, ◌*◌, nat_le, nat_lt, ◌&&◌, ◌||◌, Bool, true, false, List, [], ◌∷◌, Option, None, Some, slice_get, slice_set}
use Rattle.policy.specs.declared.flood_limiter.Bucket.{Bucket}
use Rattle.policy.specs.declared.flood_limiter.TheConstants.{BURST_MS}

-- ---- a bucket: what is heard goes in, and so many run out in a millisecond

abbrev pub empty_bucket : Bucket
empty_bucket = record { moment = 0; level = 0 }

-- how many are in it at this moment
abbrev pub level_at : ℕ → Bucket → ℕ → ℕ
level_at limit b moment = b.level - limit * (moment - b.moment)

-- there is room for as many as run out in a second
abbrev pub has_room : ℕ → Bucket → ℕ → Bool
has_room limit b moment = nat_lt (level_at limit b moment) (limit * BURST_MS)

abbrev pub one_if : Bool → ℕ
one_if true = 1
one_if false = 0

-- once a datagram more came, which goes in if there is room
abbrev pub bucket_with : ℕ → Bucket → ℕ → Bucket
bucket_with limit b moment = record {
  moment = moment;
  level = level_at limit b moment + one_if (has_room limit b moment);
}

-- ---- the endpoints

-- a datagram is heard if there is room for it; a limit of 0 bounds nothing
abbrev pub is_within : ℕ → Option Bucket → ℕ → Bool
is_within limit None moment = true
is_within limit (Some b) moment = (limit == 0) || has_room limit b moment

abbrev pub bucket_noted : ℕ → List Bucket → ℕ → ℕ → Option Bucket → List Bucket
bucket_noted limit buckets endpoint moment None = buckets
bucket_noted limit buckets endpoint moment (Some b) =
    slice_set buckets endpoint (bucket_with limit b moment)

-- once a datagram more came of this endpoint
abbrev pub buckets_with : ℕ → List Bucket → ℕ → ℕ → List Bucket
buckets_with limit buckets endpoint moment =
    bucket_noted limit buckets endpoint moment (slice_get buckets endpoint)

-- ---- all that came of one endpoint: the moments, the latest first

abbrev pub bucket_after : ℕ → List ℕ → Bucket
bucket_after limit [] = empty_bucket
bucket_after limit (moment ∷ earlier) =
    bucket_with limit (bucket_after limit earlier) moment

-- one that comes at this moment after these is heard
abbrev pub is_heard : ℕ → List ℕ → ℕ → Bool
is_heard limit earlier moment = is_within limit (Some (bucket_after limit earlier)) moment

-- how many of them came at this moment or later, and were heard
abbrev pub heard_since : ℕ → ℕ → List ℕ → ℕ
heard_since limit since [] = 0
heard_since limit since (moment ∷ earlier) =
    one_if (nat_le since moment && is_heard limit earlier moment)
    + heard_since limit since earlier

-- no moment is later than the one before it
abbrev pub AreInOrder : List ℕ → Type 0
AreInOrder [] = Unit {0}
AreInOrder (moment ∷ []) = Unit {0}
AreInOrder (moment ∷ (before ∷ earlier)) = (before ≤ moment) × AreInOrder (before ∷ earlier)

-- Of those that came in the last k milliseconds no more were heard than may be in k and a second more. One is let go only if it were too many so,
-- for some k.
pub record KeepsWithin (limit moment : ℕ) (earlier : List ℕ) : Type 0 where
  pub at_most : (k : ℕ)
      → heard_since limit (moment - k) (moment ∷ earlier) ≤ limit * (k + BURST_MS)
  pub heard : (is_heard limit earlier moment ≡ true)
      ↔ ((k : ℕ) → heard_since limit (moment - k) earlier < limit * (k + BURST_MS))
