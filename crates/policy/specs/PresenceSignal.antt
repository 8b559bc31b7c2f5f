-- What is said of who sent a datagram.
use Rattle.std.specs.Prelude.{◌==◌, ℕ, nat_lt, false, if◌then◌else◌}
use Rattle.datagram.specs.declared.reading.What.{What}
use Rattle.datagram.specs.declared.reading.What.TheVariants.{Media, Goodbye, Control, Refused}
use Rattle.policy.specs.declared.presence_signal.PresenceSignal.{PresenceSignal}
use Rattle.policy.specs.declared.presence_signal.PresenceSignal.TheVariants.{Nothing, Speaks, Leaves}

-- under the endpoint's own source: that it leaves (RFC 3550, section 6.6), or that it is there, and
-- whether it notifies of requests
abbrev pub signal_in : ℕ → What → PresenceSignal
signal_in own (Media packet) = if packet.ssrc.0 == own then Speaks false else Nothing
signal_in own Goodbye = Leaves
signal_in own (Control c) = if c.speaker.0 == own then Speaks (nat_lt 0 c.tmmbns) else Nothing
signal_in own (Refused refusal) = Nothing
