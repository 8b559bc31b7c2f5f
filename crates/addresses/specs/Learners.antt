-- The endpoints whose addresses are learned from what they send (RFC 4961).
use Rattle.std.specs.Prelude.{ℕ, ◌+◌, min, Bool, true, List, Option, None, Some, slice_get, slice_set, if◌then◌else◌}
use Rattle.std.specs.Net.Socket.{socket_ip}
use Rattle.std.specs.declared.net.ip_addr.IpAddr.{IpAddr}
use Rattle.std.specs.declared.net.socket_addr.SocketAddr.{SocketAddr}
use Rattle.addresses.specs.declared.learners.Arrived.{Arrived}
use Rattle.addresses.specs.declared.learners.Learner.{Learner}
use Rattle.addresses.specs.declared.network.Network.{Network}
use Rattle.addresses.specs.declared.learned_address.LearnedAddress.{LearnedAddress}
use Rattle.addresses.specs.Network.{is_within}
use Rattle.addresses.specs.EndpointsByKey.{occupants_of}
use Rattle.addresses.specs.LearnedAddress.{claimed}
use Rattle.addresses.specs.SenderTable.{alone_in}

-- the source of each endpoint that learns; what is known of each endpoint by its number, if it learns; and for how many milliseconds
-- a seat is kept after its endpoint was heard
pub record LearnersState : Type 0 where
  pub sources : List (ℕ × ℕ)
  pub learners : List (Option Learner)
  pub keep_ms : ℕ

abbrev pub some_learner : Option (Option Learner) → Option Learner
some_learner None = None
some_learner (Some learner) = learner

-- the endpoint with this number, if its address is learned
abbrev pub learner_at : LearnersState → ℕ → Option Learner
learner_at s endpoint = some_learner (slice_get s.learners endpoint)

-- a datagram may come from this address
abbrev pub may_come : Option Network → SocketAddr → Bool
may_come None from = true
may_come (Some network) from = is_within network (socket_ip from)

-- the seat of an endpoint once a datagram with its source arrived
abbrev pub claim_at : (SocketAddr → SocketAddr → Bool) → (IpAddr → IpAddr → Bool) → Learner
    → Arrived → ℕ → Option LearnedAddress
claim_at same same_host learner arrived until_ms =
    if may_come learner.within arrived.from
    then claimed same same_host learner.seat arrived.kind arrived.from arrived.moment until_ms
    else None

abbrev pub named_in : (ℕ → ℕ → Bool) → List (ℕ × ℕ) → Option ℕ → Option ℕ
named_in same_source sources None = None
named_in same_source sources (Some ssrc) = alone_in (occupants_of same_source sources ssrc)

-- a moment and so much later, where time may end
abbrev pub until : ℕ → ℕ → ℕ
until moment keep_ms = min (moment + keep_ms) 18446744073709551615

abbrev pub seat_claimed : ℕ → Option LearnedAddress → Option (ℕ × LearnedAddress)
seat_claimed endpoint None = None
seat_claimed endpoint (Some seat) = Some (endpoint, seat)

abbrev pub claim_with : (SocketAddr → SocketAddr → Bool) → (IpAddr → IpAddr → Bool) → ℕ → Arrived
    → ℕ → Option Learner → Option (ℕ × LearnedAddress)
claim_with same same_host endpoint arrived until_ms None = None
claim_with same same_host endpoint arrived until_ms (Some learner) =
    seat_claimed endpoint (claim_at same same_host learner arrived until_ms)

abbrev pub claim_named : (SocketAddr → SocketAddr → Bool) → (IpAddr → IpAddr → Bool)
    → LearnersState → Arrived → Option ℕ → Option (ℕ × LearnedAddress)
claim_named same same_host s arrived None = None
claim_named same same_host s arrived (Some endpoint) =
    claim_with same same_host endpoint arrived (until arrived.moment s.keep_ms)
    (learner_at s endpoint)

-- The endpoint whose datagram this is, by its source, and its seat from then on; none if no endpoint that learns has the source,
-- and for a stranger.
abbrev pub claim_of : (ℕ → ℕ → Bool) → (SocketAddr → SocketAddr → Bool) → (IpAddr → IpAddr → Bool)
    → LearnersState → Arrived → Option (ℕ × LearnedAddress)
claim_of same_source same same_host s arrived =
    claim_named same same_host s arrived (named_in same_source s.sources arrived.source)

abbrev pub seated : List (Option Learner) → ℕ → Option Learner → LearnedAddress → List (Option Learner)
seated learners endpoint None seat = learners
seated learners endpoint (Some learner) seat =
    slice_set learners endpoint (Some (record { within = learner.within; seat = seat }))

-- the seat of this endpoint is this, if its address is learned
abbrev pub with_seat : LearnersState → ℕ → LearnedAddress → LearnersState
with_seat s endpoint seat = record s {
  learners = seated s.learners endpoint (learner_at s endpoint) seat;
}

abbrev pub kept_until : LearnedAddress → ℕ → LearnedAddress
kept_until seat until_ms = record {
  rtp = seat.rtp;
  rtcp = seat.rtcp;
  until_ms = until_ms;
}

abbrev pub after_word_of : LearnersState → ℕ → ℕ → Option Learner → LearnersState
after_word_of s endpoint until_ms None = s
after_word_of s endpoint until_ms (Some learner) =
    with_seat s endpoint (kept_until learner.seat until_ms)

-- the endpoint was heard at this moment: its seat is kept from now on, or is free if it said goodbye
abbrev pub after_word : LearnersState → ℕ → ℕ → Bool → LearnersState
after_word s endpoint moment is_goodbye =
    after_word_of s endpoint (if is_goodbye then 0 else until moment s.keep_ms)
    (learner_at s endpoint)
