-- The certificate that is given for the announced set: which pair each kept request has, and how the others
-- follow. Fractions aren't reduced.
use Rattle.std.specs.Prelude.{◌≡◌, ◌==◌, ℕ, ◌+◌, ◌-◌, ◌*◌, Bool, true, not, nat_lt, nat_le, List, [], ◌∷◌, length, map, filter, slice_index_or, if◌then◌else◌}
use Rattle.std.specs.List.{list_any, range_with_len}
use Rattle.tmmbr_tuple.specs.Tuple.{rate_of}
use Rattle.tmmbr_tuple.specs.RatePair.{RatePair, pair_of}
use Rattle.rate_cert.specs.declared.request.Request.{Request}
use Rattle.rate_cert.specs.declared.certificate.Implied.{Implied}
use Rattle.rate_cert.specs.declared.certificate.Cert.{Cert}
use Rattle.rate_cert.specs.Choice.{chosen_requests}
use Rattle.rate_cert.specs.Certificate.{kept_places}
use Rattle.bounding_set.specs.Canonical.{IsCanonical}

-- a packet rate: upper / lower packets per second, or without bound where lower is 0
pub record End : Type 0 where
  pub upper : ℕ
  pub lower : ℕ

-- where the first kept line begins, where two neighbours cross, and where the last one leaves nothing for media
abbrev pub start_end : End
start_end = record { upper = 0; lower = 1 }

-- the packet rate at which the lines of x and y cross
abbrev pub crossing_of : Request → Request → End
crossing_of x y = record {
  upper = rate_of y.tuple - rate_of x.tuple;
  lower = 8 * (y.tuple.overhead - x.tuple.overhead);
}

-- a request's reach: its rate over its overhead, the packet rate at which nothing is left for media
abbrev pub reach_of : Request → End
reach_of x = record { upper = rate_of x.tuple; lower = 8 * x.tuple.overhead }

-- the pair between two ends of a line, one bit above it
abbrev pub pair_between : Request → End → End → RatePair
pair_between x left right =
    let packets = left.upper + right.upper in
    let seconds = left.lower + right.lower in
    record {
      packets = packets;
      bits = (rate_of x.tuple * seconds - 8 * x.tuple.overhead * packets) + 1;
      seconds = seconds;
    }

-- the right end of a kept request before the ones that are listed after it
abbrev pub right_end : Request → List Request → End
right_end x [] = reach_of x
right_end x (y ∷ ys) = crossing_of x y

-- the pairs of kept requests in listed order, from the left end of the first on
abbrev pub pairs_from : End → List Request → List RatePair
pairs_from left [] = []
pairs_from left (x ∷ xs) = pair_between x left (right_end x xs) ∷ pairs_from (right_end x xs) xs

-- Beside a stop of the media another request may be kept: the stop has one bit without packets, and the other has
-- packets without media, just beyond its reach.
abbrev pub is_stop_with_reach : List Request → Bool
is_stop_with_reach (x ∷ y ∷ []) = rate_of x.tuple == 0
is_stop_with_reach xs = not true

abbrev pub pair_beyond : Request → RatePair
pair_beyond x = record { packets = rate_of x.tuple + 1; bits = 0; seconds = 8 * x.tuple.overhead }

abbrev pub pairs_with_stop : List Request → List RatePair
pairs_with_stop [] = []
pairs_with_stop (x ∷ xs) = record { packets = 0; bits = 1; seconds = 1 } ∷ map pair_beyond xs

-- the pairs of the kept requests
abbrev pub kept_pairs : List Request → List RatePair
kept_pairs kept =
    if is_stop_with_reach kept then pairs_with_stop kept else pairs_from start_end kept

-- a kept request's place and overhead
pub record Listed : Type 0 where
  pub place : ℕ
  pub overhead : ℕ

-- how a dropped request follows from the kept ones: from the first where its overhead isn't greater, from the last
-- where its overhead isn't less, else from the two neighbours
abbrev pub implied_above : ℕ → ℕ → Listed → List Listed → Implied
implied_above place overhead a [] =
    record { place = place; a = a.place; b = a.place; p = overhead; q = 0; r = a.overhead }
implied_above place overhead a (b ∷ bs) =
    if nat_lt overhead b.overhead
    then record {
      place = place;
      a = a.place;
      b = b.place;
      p = b.overhead - overhead;
      q = overhead - a.overhead;
      r = b.overhead - a.overhead;
    }
    else implied_above place overhead b bs

abbrev pub implied_by : List Listed → ℕ → ℕ → Implied
implied_by [] place overhead = record { place = place; a = 0; b = 0; p = 0; q = 0; r = 0 }
implied_by (first ∷ kept) place overhead =
    if nat_le overhead first.overhead
    then record { place = place; a = first.place; b = first.place; p = 1; q = 0; r = 1 }
    else implied_above place overhead first kept

-- the places of no kept request, rising
abbrev pub dropped_places : ℕ → List ℕ → List ℕ
dropped_places count kept =
    filter (λ place. not (list_any (λ k. k == place) kept)) (range_with_len 0 count)

-- the certificate that is given for these rows: the canonical choice, pairs between the crossings of
-- neighbours, and how the others follow
pub record IsGivenFor (rows : List Request) (cert : Cert) : Type 0 where
  pub canonical : IsCanonical rows (kept_places cert)
  pub pairs : map (λ k. pair_of k.pair) cert.kept.items
      ≡ kept_pairs (chosen_requests rows (kept_places cert))
  pub implied : (d : Request) → cert.implied.items
      ≡ map (λ place. implied_by
      (map (λ k. record { place = k; overhead = (slice_index_or rows k d).tuple.overhead })
      (kept_places cert))
      place (slice_index_or rows place d).tuple.overhead)
      (dropped_places (length rows) (kept_places cert))
