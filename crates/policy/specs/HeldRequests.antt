-- What is held of a unit's legs after what was heard, and what is heard once more (RFC 5104, section 4.2.1).
use Rattle.std.specs.Prelude.{◌≡◌, ℕ, ◌+◌, List, length, filter, fold, map, replicate, Option, None, Some, slice_set, if◌then◌else◌}
use Rattle.settings.specs.Links.{legs_of}
use Rattle.settings.specs.Settings.{Configuration}
use Rattle.members.specs.declared.view.RoomView.{RoomView}
use Rattle.datagram.specs.declared.reading.Ask.{Ask}
use Rattle.datagram.specs.declared.reading.Sent.{Sent}
use Rattle.policy.specs.Again.{HoldTerms, next_again}
use Rattle.policy.specs.Asking.{Asking, is_left}
use Rattle.policy.specs.JoinedPublishers.{just_joined, first_due, ticked_in}
use Rattle.policy.specs.Presence.{is_there}
use Rattle.policy.specs.Requests.{ask_in, place_without, unasked}
use Rattle.policy.specs.declared.again.Again.{Again}
use Rattle.policy.specs.declared.joined_publishers.JoinedPublisher.{JoinedPublisher}
use Rattle.policy.specs.declared.joined_publishers.JoinedPublisher.TheVariants.{Over, Due}
use Rattle.policy.specs.declared.held_requests.HeldRequests.{HeldRequests}
use Rattle.policy.specs.declared.requests.LegRequest.{LegRequest}
use Rattle.policy.specs.declared.presence_signal.PresenceSignal.{PresenceSignal}
use Rattle.policy.specs.declared.presence_signal.PresenceSignal.TheVariants.{Nothing, Speaks, Leaves}

-- Nothing is held in a unit of these settings, nobody came, and nobody spoke.
pub record HoldsNothing (c : Configuration) (h : HeldRequests) : Type 0 where
  pub nothing : h.requests ≡ map unasked c.legs
  pub nobody : h.joined_publishers ≡ replicate (length c.endpoints) Over
  pub unheard : h.heard ≡ replicate (length c.endpoints) None
  pub age : h.request_ms ≡ c.request_ms
  pub silence : h.timeout_ms ≡ c.timeout_ms

-- when requests are given up and endpoints are gone, and where sets are looked up, stays
pub record Stays (h k : HeldRequests) : Type 0 where
  pub age : k.request_ms ≡ h.request_ms
  pub silence : k.timeout_ms ≡ h.timeout_ms
  pub sets : k.sets ≡ h.sets

-- ---- what is said of who sent a datagram

-- who sent it, into a room that is so
abbrev pub asking_of : RoomView → Sent → Asking
asking_of view sent = record {
  table = view.links.now;
  room = view.room.now;
  endpoint = sent.endpoint;
  moment = sent.moment;
}

-- nobody came, left or spoke, and nothing was asked for
pub record IsAsItWas (h k : HeldRequests) : Type 0 where
  pub requests : k.requests ≡ h.requests
  pub joined_publishers : k.joined_publishers ≡ h.joined_publishers
  pub heard : k.heard ≡ h.heard

-- it said goodbye: what it asked for is forgotten, and it isn't one that came
pub record HasLeft (h k : HeldRequests) (endpoint : ℕ) : Type 0 where
  pub requests : k.requests ≡ map (place_without endpoint) h.requests
  pub joined_publishers : k.joined_publishers ≡ slice_set h.joined_publishers endpoint Over
  pub heard : k.heard ≡ h.heard

-- if it wasn't there it comes, and what it asked for before is forgotten
abbrev pub requests_as_comes : Asking → List LegRequest → List LegRequest
requests_as_comes a requests =
    if is_there a.room a.endpoint a.moment then requests
    else map (place_without a.endpoint) requests

-- and it is noted as one that came
abbrev pub joined_as_comes : Asking → ℕ → List JoinedPublisher → List JoinedPublisher
joined_as_comes a request_ms joined_publishers =
    if is_there a.room a.endpoint a.moment then joined_publishers
    else slice_set joined_publishers a.endpoint (just_joined request_ms)

-- it is there, spoke now, and asked for this
pub record IsThere (h k : HeldRequests) (a : Asking) (asks : List Ask) : Type 0 where
  pub requests : k.requests
      ≡ fold (ask_in a.table a.endpoint a.moment) (requests_as_comes a h.requests) asks
  pub joined_publishers : k.joined_publishers ≡ joined_as_comes a h.request_ms h.joined_publishers
  pub heard : k.heard ≡ slice_set h.heard a.endpoint (Some a.moment)

-- What is held, and who came, once this was said of who sent a datagram: it leaves (RFC 3550, section 6.6), or is
-- there and asks for this (RFC 5104, section 4.2.1).
abbrev pub HearsSignal : PresenceSignal → HeldRequests → HeldRequests → Asking → List Ask → Type 0
HearsSignal Nothing h k a asks = IsAsItWas h k
HearsSignal Leaves h k a asks = HasLeft h k a.endpoint
HearsSignal (Speaks notifies) h k a asks = IsThere h k a asks

-- of what an endpoint asks for under its own source: all but rates of publishers that aren't
-- there (RFC 5104, section 4.2.1)
abbrev pub asks_left : PresenceSignal → Asking → List Ask → List Ask
asks_left Nothing a asks = asks
asks_left Leaves a asks = asks
asks_left (Speaks notifies) a asks = filter (is_left a) asks

-- ---- what is heard once more

-- A tick was made.
pub record Ticks (h k : HeldRequests) : Type 0 where
  pub stays : Stays h k
  pub requests : k.requests ≡ h.requests
  pub heard : k.heard ≡ h.heard
  pub joined_publishers : k.joined_publishers ≡ map ticked_in h.joined_publishers

abbrev pub hold_terms : HeldRequests → RoomView → ℕ → HoldTerms
hold_terms h view moment = record {
  requests = h.requests;
  heard = h.heard;
  table = view.links.now;
  room = view.room.now;
  request_ms = h.request_ms;
  timeout_ms = h.timeout_ms;
  moment = moment;
}

-- of this publisher the leg that was found, after which its legs are looked at next; if none was, it is done with
abbrev pub HearsNext : Option (ℕ × Again) → List JoinedPublisher → List JoinedPublisher → ℕ → Option Again → Type 0
HearsNext None before after publisher again =
    (again ≡ None) × (after ≡ slice_set before publisher Over)
HearsNext (Some next) before after publisher again =
    (again ≡ Some next.1) × (after ≡ slice_set before publisher (Due (next.0 + 1)))

-- of the first publisher that is due
abbrev pub HearsDue : Option (ℕ × ℕ) → HoldTerms → List JoinedPublisher → List JoinedPublisher → Option Again → Type 0
HearsDue None t before after again = (again ≡ None) × (after ≡ before)
HearsDue (Some due) t before after again =
    HearsNext (next_again t due.1 0 (legs_of t.table due.0)) before after due.0 again

-- What is heard once more, if anything is: of the first publisher that is due the next leg for which something is
-- held (RFC 5104, section 4.2.1). It doesn't count as spoken by the subscriber.
pub record HearsAgain (h k : HeldRequests) (t : HoldTerms) (again : Option Again) : Type 0 where
  pub stays : Stays h k
  pub requests : k.requests ≡ h.requests
  pub heard : k.heard ≡ h.heard
  pub hears : HearsDue (first_due 0 h.joined_publishers) t h.joined_publishers k.joined_publishers again
