-- Which names a client has that sits in a seat, by what it sent.
use Rattle.std.specs.Prelude.{◌≡◌, ◌==◌, ◌&&◌, ◌||◌, ℕ, nat_le, Bool, true, false, not, List, Option, None, Some, if◌then◌else◌}
use Rattle.std.specs.Option.{is_none}
use Rattle.datagram.specs.Naming.{source_named}
use Rattle.rtcp_compound.specs.Mux.{is_rtcp}
use Rattle.settings.specs.Settings.{Configuration}
use Rattle.tmmbr_tuple.specs.declared.ssrc.Ssrc.{Ssrc}
use Rattle.seats.specs.Names.{nameless}
use Rattle.seats.specs.Spoken.{IsSpoken}
use Rattle.seats.specs.Units.{is_free}
use Rattle.seats.specs.declared.seat.Arrival.{Arrival}
use Rattle.seats.specs.declared.seat.Seat.{Seat}
use Rattle.seats.specs.declared.seat.Whose.{Whose}
use Rattle.seats.specs.declared.seat.Whose.TheVariants.{Clients, Ours, Others}
use Rattle.seats.specs.declared.spoken.Spoken.{Spoken}

-- nobody sits there yet
abbrev pub vacant_seat : Ssrc → Seat
vacant_seat seat = record { names = nameless seat; until_ms = 0 }

-- after a goodbye its client may send under another name
abbrev pub after_goodbye : Seat → Seat
after_goodbye s = record s { until_ms = 0 }

-- this name is known, and is that one
abbrev pub is_named : Option Ssrc → ℕ → Bool
is_named None name = false
is_named (Some known) name = known.0 == name

-- under this name its client sends
abbrev pub is_sender : Seat → ℕ → Bool
is_sender s name = is_named s.names.sends name

-- under this name it asked last
abbrev pub is_asker : Seat → ℕ → Bool
is_asker s name = is_named s.names.asks name

-- its client may send under another name: it has none yet, or was silent under it for long
abbrev pub may_change : Seat → ℕ → Bool
may_change s moment = is_none s.names.sends || nat_le s.until_ms moment

abbrev pub sending : Seat → ℕ → ℕ → Seat
sending s name until = record {
  names = record s.names { sends = Some (record { 0 = name }) };
  until_ms = until;
}

-- ---- RTP packets

-- Whose a packet is that came from the address of a seat under this name: its client's, if that sends so, or may do so from now on. Under a name of the
-- unit's it is nobody's, and under another one while the client keeps its own (RFC 3550, section 8.2).
abbrev pub whose_packet : Configuration → Seat → ℕ → ℕ → Whose
whose_packet c s name moment =
    if is_sender s name then Clients
    else if not (is_free c s.names.seat.0 name) then Ours
    else if may_change s moment then Clients
    else Others

abbrev pub after_packet : Seat → ℕ → ℕ → Whose → Seat
after_packet s name until Clients = sending s name until
after_packet s name until Ours = s
after_packet s name until Others = s

-- ---- RTCP

-- Whose RTCP is that names this source first: the client's, unless it is one of the unit's.
abbrev pub whose_control : Configuration → Seat → ℕ → Whose
whose_control c s name =
    if is_sender s name || is_asker s name || is_free c s.names.seat.0 name then Clients else Ours

-- a sender report says under which name the client sends, as a packet does (RFC 3550, section 6.4.1)
abbrev pub after_report : Configuration → Seat → Option Ssrc → ℕ → ℕ → Seat
after_report c s None moment until = s
after_report c s (Some sender) moment until =
    after_packet s sender.0 until (whose_packet c s sender.0 moment)

-- it asks under this name from now on, if it may have it
abbrev pub asking : Configuration → Seat → ℕ → Seat
asking c s name =
    if not (is_asker s name) && not (is_free c s.names.seat.0 name) then s
    else record s { names = record s.names { asks = Some (record { 0 = name }) } }

abbrev pub after_ask : Configuration → Seat → Option Ssrc → Seat
after_ask c s None = s
after_ask c s (Some asker) = asking c s asker.0

abbrev pub after_control : Configuration → Seat → Spoken → ℕ → ℕ → Whose → Seat
after_control c s spoken moment until Clients =
    after_ask c (after_report c s spoken.sends moment until) spoken.asks
after_control c s spoken moment until Ours = s
after_control c s spoken moment until Others = s

-- ---- any datagram

-- of a datagram that names this source
abbrev pub SaysFrom : Configuration → Seat → List ℕ → ℕ → ℕ → ℕ → Arrival → Type 0
SaysFrom c s datagram name moment until a =
    (is_rtcp datagram ≡ true → (spoken : Spoken) × IsSpoken datagram spoken
    × (a ≡ record {
      whose = whose_control c s name;
      seat = after_control c s spoken moment until (whose_control c s name);
    }))
    × (is_rtcp datagram ≡ false → a ≡ record {
      whose = whose_packet c s name moment;
      seat = after_packet s name until (whose_packet c s name moment);
    })

-- of a datagram that names this source, or none
abbrev pub ArrivesFrom : Configuration → Seat → List ℕ → Option ℕ → ℕ → ℕ → Arrival → Type 0
ArrivesFrom c s datagram None moment until a = a ≡ record { whose = Clients; seat = s }
ArrivesFrom c s datagram (Some name) moment until a = SaysFrom c s datagram name moment until a

-- A datagram came from the address of this seat, at this moment: whose it is, and which names the seat's client has from then on. It keeps the one
-- under which it sends until that moment, if the datagram says it.
abbrev pub Arrives : Configuration → Seat → List ℕ → ℕ → ℕ → Arrival → Type 0
Arrives c s datagram moment until a =
    ArrivesFrom c s datagram (source_named datagram) moment until a
