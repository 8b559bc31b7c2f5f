-- The names (SSRCs) of a seat and of the client that sits there.
use Rattle.std.specs.Prelude.{◌==◌, ℕ, None, unwrap_or, if◌then◌else◌}
use Rattle.tmmbr_tuple.specs.declared.ssrc.Ssrc.{Ssrc}
use Rattle.seats.specs.declared.names.Names.{Names}
use Rattle.seats.specs.declared.names.Renaming.{Renaming}
use Rattle.seats.specs.declared.names.Renaming.TheVariants.{Exchange, Put}

-- the other of two names, if it is one of them; any other name stays
abbrev pub exchanged : ℕ → ℕ → ℕ → ℕ
exchanged one other name = if name == one then other else if name == other then one else name

abbrev pub renamed : Renaming → ℕ → ℕ
renamed (Exchange one other) name = exchanged one.0 other.0 name
renamed (Put put) name = put.0

-- of a seat whose client said nothing yet
abbrev pub nameless : Ssrc → Names
nameless seat = record { seat = seat; sends = None; asks = None }

-- under which name a client sends media and sender reports; the seat's while that isn't known
abbrev pub sends_as : Names → Ssrc
sends_as n = unwrap_or n.sends n.seat

-- under which it reports as a receiver, and asks; under which it sends while that isn't known
abbrev pub asks_as : Names → Ssrc
asks_as n = unwrap_or n.asks (sends_as n)

-- under which it leaves: under which it sends; if it never sent, under which it asks
abbrev pub leaves_as : Names → Ssrc
leaves_as n = unwrap_or n.sends (unwrap_or n.asks n.seat)
