-- What was seen of an endpoint's media: its own, and what may be its own though it isn't heard as such.
use Rattle.std.specs.Prelude.{ℕ, ◌==◌, Bool, None, Some, if◌then◌else◌}
use Rattle.std.specs.declared.net.socket_addr.SocketAddr.{SocketAddr}
use Rattle.tmmbr_tuple.specs.declared.ssrc.Ssrc.{Ssrc}
use Rattle.diagnosis.specs.declared.sightings.Sighting.{Sighting}

abbrev pub unsighted : Sighting
unsighted = record { media_ms = None; source = None; place = None }

abbrev pub with_media : Sighting → ℕ → Sighting
with_media s moment = record { media_ms = Some moment; source = s.source; place = s.place }

-- the last from the endpoint's address under another SSRC is this one
abbrev pub with_source : Sighting → Ssrc → ℕ → Sighting
with_source s source moment = record {
  media_ms = s.media_ms;
  source = Some (record { source = source; moment = moment });
  place = s.place;
}

-- the last under the endpoint's SSRC from elsewhere is this one
abbrev pub with_place : Sighting → SocketAddr → ℕ → Sighting
with_place s address moment = record {
  media_ms = s.media_ms;
  source = s.source;
  place = Some (record { address = address; moment = moment });
}

-- a packet from the endpoint's address is its own by its SSRC
abbrev pub with_packet : Sighting → Ssrc → Ssrc → ℕ → Sighting
with_packet s own source moment =
    if own.0 == source.0 then with_media s moment else with_source s source moment

-- a packet that is nobody's concerns an endpoint with its SSRC, or at its address
abbrev pub with_stranger : (SocketAddr → SocketAddr → Bool) → Sighting → Ssrc → SocketAddr → Ssrc
    → SocketAddr → ℕ → Sighting
with_stranger same s own home source address moment =
    if own.0 == source.0 then with_place s address moment
    else if same home address then with_source s source moment else s
