-- The seat of an endpoint whose address is learned (RFC 4961).
use Rattle.std.specs.Prelude.{ℕ, nat_lt, Bool, true, Option, None, Some, if◌then◌else◌}
use Rattle.std.specs.Net.Socket.{socket_ip}
use Rattle.std.specs.declared.net.ip_addr.IpAddr.{IpAddr}
use Rattle.std.specs.declared.net.socket_addr.SocketAddr.{SocketAddr}
use Rattle.addresses.specs.declared.learned_address.Kind.{Kind}
use Rattle.addresses.specs.declared.learned_address.Kind.TheVariants.{Rtp, Rtcp}
use Rattle.addresses.specs.declared.learned_address.LearnedAddress.{LearnedAddress}

abbrev pub empty_seat : LearnedAddress
empty_seat = record {
  rtp = None;
  rtcp = None;
  until_ms = 0;
}

abbrev pub first_known : Option SocketAddr → Option SocketAddr → Option SocketAddr
first_known (Some address) other = Some address
first_known None other = other

-- where what is of this kind goes: to the address of its kind, or to the other one while none of its kind is known
abbrev pub address_of : LearnedAddress → Kind → Option SocketAddr
address_of seat Rtp = first_known seat.rtp seat.rtcp
address_of seat Rtcp = first_known seat.rtcp seat.rtp

-- what is left of it at this moment
abbrev pub kept_at : LearnedAddress → ℕ → LearnedAddress
kept_at seat moment = if nat_lt moment seat.until_ms then seat else empty_seat

-- A datagram from this address may take the place of its kind: nobody has it, and the other place is nobody's or one of the same
-- host; or this address has it.
abbrev pub may_take : (SocketAddr → SocketAddr → Bool) → (IpAddr → IpAddr → Bool)
    → Option SocketAddr → Option SocketAddr → SocketAddr → Bool
may_take same same_host (Some address) other from = same address from
may_take same same_host None (Some address) from = same_host (socket_ip address) (socket_ip from)
may_take same same_host None None from = true

abbrev pub is_free : (SocketAddr → SocketAddr → Bool) → (IpAddr → IpAddr → Bool) → LearnedAddress → Kind
    → SocketAddr → Bool
is_free same same_host seat Rtp from = may_take same same_host seat.rtp seat.rtcp from
is_free same same_host seat Rtcp from = may_take same same_host seat.rtcp seat.rtp from

-- the seat with this address of this kind
abbrev pub taken : LearnedAddress → Kind → SocketAddr → ℕ → LearnedAddress
taken seat Rtp from until_ms = record {
  rtp = Some from;
  rtcp = seat.rtcp;
  until_ms = until_ms;
}
taken seat Rtcp from until_ms = record {
  rtp = seat.rtp;
  rtcp = Some from;
  until_ms = until_ms;
}

-- The seat once a datagram of this kind with its source came from this address; none for a stranger, since somebody else has it.
abbrev pub claimed : (SocketAddr → SocketAddr → Bool) → (IpAddr → IpAddr → Bool) → LearnedAddress → Kind
    → SocketAddr → ℕ → ℕ → Option LearnedAddress
claimed same same_host seat kind from moment until_ms =
    if is_free same same_host (kept_at seat moment) kind from
    then Some (taken (kept_at seat moment) kind from until_ms) else None
