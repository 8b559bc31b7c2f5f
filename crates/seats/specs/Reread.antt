-- What is read of datagrams once names in them are exchanged.
use Rattle.std.specs.Prelude.{◌<◌, ◌^◌, ◌==◌, ℕ, List, Ok, slice_index, if◌then◌else◌}
use Rattle.std.specs.List.{list_any}
use Rattle.datagram.specs.Saying.{Gist, Said, SaysRtcp, control, leaves, speaker_of}
use Rattle.seats.specs.Names.{asks_as, exchanged, leaves_as, sends_as}
use Rattle.seats.specs.declared.names.Names.{Names}

-- each name has 32 bits
pub record AreFit (n : Names) : Type 0 where
  pub seat : n.seat.0 < 2 ^ 32
  pub sends : (sends_as n).0 < 2 ^ 32
  pub asks : (asks_as n).0 < 2 ^ 32
  pub leaves : (leaves_as n).0 < 2 ^ 32

abbrev pub AreOctets : List ℕ → Type 0
AreOctets bytes = (i : ℕ) → slice_index bytes i < 256

-- what is heard of what a client with these names says: that it leaves, if it names itself in a BYE (RFC 3550, section 6.6); else who speaks is who
-- sends by its sender reports, under the seat's name if it is the client
abbrev pub heard_said : Names → Gist → Said
heard_said n g =
    if list_any (λ s. s == (leaves_as n).0) g.goodbyes then leaves
    else control (exchanged n.seat.0 (sends_as n).0 (speaker_of (sends_as n).0 g.clocks)) g.reports g.tmmbns g.asks

-- A datagram says to a seat what its client said so.
abbrev pub IsHeardOf : Names → Gist → List ℕ → Type 0
IsHeardOf n g after = SaysRtcp n.seat.0 after (Ok (heard_said n g))
