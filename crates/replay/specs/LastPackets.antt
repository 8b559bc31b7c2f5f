-- From which event the last packet of each leg followed.
use Rattle.std.specs.Prelude.{ℕ, List, Option, None, Some, slice_set}
use Rattle.replay.specs.declared.last_packets.LastPacket.{LastPacket}

-- none went out yet
abbrev pub no_packet : LastPacket
no_packet = record { number = 0; moment = 0 }

-- of each leg once this one went out on the leg, if on any
abbrev pub packets_after : List LastPacket → Option ℕ → LastPacket → List LastPacket
packets_after packets None packet = packets
packets_after packets (Some leg) packet = slice_set packets leg packet
