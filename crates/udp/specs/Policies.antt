-- What becomes of what was read of an endpoint's packets, by the rules of a unit.
use Rattle.std.specs.Prelude.{◌≡◌, ◌⊎◌, ◌==◌, ◌+◌, ◌≤◌, ℕ, length, unwrap_or, slice_get, Bool, true, false, List, [], Option, None, Some, slice_set, if◌then◌else◌}
use Rattle.datagram.specs.declared.reading.Reading.{Reading}
use Rattle.datagram.specs.declared.reading.Sent.{Sent}
use Rattle.members.specs.declared.view.RoomView.{RoomView}
use Rattle.policy.specs.HeldRequests.{asking_of}
use Rattle.policy.specs.RateRequests.{Hears}
use Rattle.policy.specs.PresenceSignal.{signal_in}
use Rattle.policy.specs.declared.rate_requests.RateRequests.{RateRequests}
use Rattle.policy.specs.IngressFilter.{IsAsItWas, Judges, LooksForNothing, Stays, counted_in, welcomed}
use Rattle.policy.specs.declared.ingress_filter.Judged.{Judged}
use Rattle.policy.specs.declared.ingress_filter.Judged.TheVariants.{Take, HoldPacket, Anew}
use Rattle.policy.specs.declared.ingress_filter.IngressFilter.{IngressFilter}
use Rattle.udp.specs.Kept.{IsOfSame, bytes_of, is_there, with_behind}
use Rattle.udp.specs.declared.kept.Kept.{Kept}
use Rattle.udp.specs.declared.policies.Policies.{Policies}

-- how many entries of a datagram count, if that is bounded
abbrev pub most_by : ℕ → Option ℕ
most_by limit = if limit == 0 then None else Some limit

-- a packet that is far is put by, in place of the one before, unless there is no memory for it
abbrev pub HoldsFar : Judged → List (List ℕ) → List (List ℕ) → ℕ → List ℕ → Type 0
HoldsFar Take before after endpoint packet = after ≡ before
HoldsFar HoldPacket before after endpoint packet =
    (after ≡ slice_set before endpoint packet) ⊎ (after ≡ slice_set before endpoint [])
HoldsFar Anew before after endpoint packet = after ≡ before

-- ---- what is held of requests

-- Who sent this is noted, and of what it asks for that is left which is heard at once.
pub record IsHeld (before after : RateRequests) (sent : Sent) (view : RoomView) (old new : Reading)
    : Type 0 where
  pub held : Hears before after (signal_in sent.own.0 old.what) (asking_of view sent) old new

-- ---- judged

-- By what is judged and held what was read: all of the rules but how floods are counted, which comes before.
pub record Ruling : Type 0 where
  pub ingress_filter : IngressFilter
  pub held_packets : List (List ℕ)
  pub requests : RateRequests
  pub most : Option ℕ

abbrev pub ruling_of : Policies → Ruling
ruling_of p = record { ingress_filter = p.ingress_filter; held_packets = p.held_packets; requests = p.requests; most = p.most }

-- Who sent what was read comes anew if it isn't there by the room: what was known of it is forgotten.
pub record IsWelcomed (p q : Ruling) (k : Kept) (view : RoomView) : Type 0 where
  pub ingress_filter : q.ingress_filter ≡ welcomed p.ingress_filter k.sent view.room.now
  pub held_packets : q.held_packets ≡ p.held_packets
  pub requests : q.requests ≡ p.requests
  pub most : q.most ≡ p.most

-- What was read is judged, and this is left of it, which is what was read if no rule asks for anything; a packet that is far is put by.
pub record IsJudged (p q : Ruling) (k l : Kept) (judged : Judged) : Type 0 where
  pub judges : Judges p.ingress_filter q.ingress_filter k.sent k.reading l.reading judged
  pub off : LooksForNothing p.ingress_filter → IsAsItWas p.ingress_filter q.ingress_filter k.reading l.reading judged
  pub held_packets : HoldsFar judged p.held_packets q.held_packets k.sent.endpoint (bytes_of k)
  pub same : IsOfSame k l
  pub requests : q.requests ≡ p.requests
  pub most : q.most ≡ p.most

-- the packet of the endpoint that was put by; none if none is
abbrev pub far_of : List (List ℕ) → ℕ → List ℕ
far_of held_packets endpoint = unwrap_or (slice_get held_packets endpoint) []

-- The packet of the endpoint that was put by is counted of it, and stands behind where datagrams come, up to this place.
pub record TakesFar (p q : Ruling) (k l : Kept) (endpoint moment to : ℕ) : Type 0 where
  pub there : is_there (far_of p.held_packets endpoint) ≡ true
  pub ends : to ≡ 65535 + length (far_of p.held_packets endpoint)
  pub behind : 65535 ≤ to
  pub within : to ≤ length l.buffer.items
  pub bytes : l.buffer.items ≡ with_behind k.buffer.items (far_of p.held_packets endpoint)
  pub resends : q.ingress_filter.resends ≡ counted_in p.ingress_filter.resends endpoint moment
  pub starts : q.ingress_filter.starts ≡ p.ingress_filter.starts
  pub rules : Stays p.ingress_filter q.ingress_filter
  pub held_packets : q.held_packets ≡ p.held_packets
  pub requests : q.requests ≡ p.requests
  pub most : q.most ≡ p.most
