-- Who is known by an address, and whose address is learned, of endpoints with these sources and these clients.
use Rattle.std.specs.Prelude.{ℕ, ◌+◌, min, List, [], ◌∷◌, ◌++◌, map, slice_get, Option, Some, None, option_to_list}
use Rattle.std.specs.List.{enumerate_from, filter_map, flat_map}
use Rattle.std.specs.declared.net.socket_addr.SocketAddr.{SocketAddr}
use Rattle.tmmbr_tuple.specs.declared.ssrc.Ssrc.{Ssrc}
use Rattle.addresses.specs.declared.learners.Learner.{Learner}
use Rattle.addresses.specs.declared.sender_table.SourceAddress.{SourceAddress}
use Rattle.addresses.specs.Learners.{LearnersState, learner_at}
use Rattle.addresses.specs.LearnedAddress.{empty_seat}
use Rattle.addresses.specs.declared.clients.Client.{Client}
use Rattle.addresses.specs.declared.clients.Location.{Location}
use Rattle.addresses.specs.declared.clients.Location.TheVariants.{Fixed, Learned}

-- the endpoint with this number; all beyond 65535 are that one
abbrev pub endpoint_at : ℕ → ℕ
endpoint_at number = min number 65535

-- ---- whose address is learned

-- the source of an endpoint whose address is learned
abbrev pub learning_source : ℕ → Option Ssrc → Location → Option (ℕ × ℕ)
learning_source endpoint None location = None
learning_source endpoint (Some source) (Fixed places) = None
learning_source endpoint (Some source) (Learned within) = Some (source.0, endpoint)

-- the endpoint, if its address is learned; nobody has its seat
abbrev pub new_learner : Option Ssrc → Location → Option Learner
new_learner None location = None
new_learner (Some source) (Fixed places) = None
new_learner (Some source) (Learned within) = Some (record { within = within; seat = empty_seat })

-- once the endpoint with this number is there, too
abbrev pub with_client : LearnersState → ℕ → Option Ssrc → Location → LearnersState
with_client s endpoint source location = record {
  sources = s.sources ++ option_to_list (learning_source endpoint source location);
  learners = s.learners ++ new_learner source location ∷ [];
  keep_ms = s.keep_ms;
}

abbrev pub numbered_source : List Ssrc → ℕ × Client → Option (ℕ × ℕ)
numbered_source sources e =
    learning_source (endpoint_at e.0) (slice_get sources e.0) e.1.location

abbrev pub numbered_learner : List Ssrc → ℕ × Client → Option Learner
numbered_learner sources e = new_learner (slice_get sources e.0) e.1.location

-- so long a seat is kept, in milliseconds: a second longer than an endpoint is present that says nothing
abbrev pub kept_ms : ℕ → ℕ
kept_ms timeout_ms = min (timeout_ms + 1000) 18446744073709551615

-- The endpoints whose addresses are learned (RFC 4961): those with a source whose clients say so, each within
-- its network. A seat is kept a second longer than the timeout. Nothing is learned yet.
abbrev pub learners_of : List Ssrc → List Client → ℕ → LearnersState
learners_of sources clients timeout_ms = record {
  sources = filter_map (numbered_source sources) (enumerate_from 0 clients);
  learners = map (numbered_learner sources) (enumerate_from 0 clients);
  keep_ms = kept_ms timeout_ms;
}

-- ---- who is known by an address

-- the addresses that are known of a client: for all but RTCP, and for RTCP
abbrev pub seat_places : Option Learner → Option SocketAddr × Option SocketAddr
seat_places None = (None, None)
seat_places (Some learner) = (learner.seat.rtp, learner.seat.rtcp)

abbrev pub places_of : Location → Option Learner → Option SocketAddr × Option SocketAddr
places_of (Fixed places) learner = (Some places.media, Some places.rtcp)
places_of (Learned within) learner = seat_places learner

-- where datagrams of an endpoint with this source come from, if that is known
abbrev pub origin_at : ℕ → Ssrc → Option SocketAddr → List (SourceAddress × ℕ)
origin_at endpoint source None = []
origin_at endpoint source (Some address) =
    (record { address = address; ssrc = source.0 }, endpoint) ∷ []

abbrev pub origins_at : ℕ → Option Ssrc → Option SocketAddr × Option SocketAddr
    → List (SourceAddress × ℕ)
origins_at endpoint None places = []
origins_at endpoint (Some source) places =
    origin_at endpoint source places.0 ++ origin_at endpoint source places.1

abbrev pub numbered_origins : List Ssrc → LearnersState → ℕ × Client → List (SourceAddress × ℕ)
numbered_origins sources learners e =
    origins_at (endpoint_at e.0) (slice_get sources e.0)
    (places_of e.1.location (learner_at learners (endpoint_at e.0)))

-- Where datagrams of each endpoint that has a source come from: the addresses of its client, or of its seat
-- if these are learned (RFC 4961).
abbrev pub senders_of : List Ssrc → List Client → LearnersState → List (SourceAddress × ℕ)
senders_of sources clients learners =
    flat_map (numbered_origins sources learners) (enumerate_from 0 clients)
