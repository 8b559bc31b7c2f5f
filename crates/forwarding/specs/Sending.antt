-- What is given out is handed to a sink, and counted.
use Rattle.std.specs.Prelude.{◌≡◌, ◌+◌, ℕ, Bool, true, false, List, length, filter}
use Rattle.events.specs.declared.output.Out.{Out}
use Rattle.events.specs.declared.output.Out.TheVariants.{Send, Refused, Busy, Lost, Skip, Miss, Idle}
use Rattle.ports.specs.Outside.{SinkView, Grows, datagrams_of}
use Rattle.forwarding.specs.declared.done.Forwarded.{Forwarded}

abbrev pub is_skip : Out → Bool
is_skip (Send endpoint bytes) = false
is_skip (Refused refusal) = false
is_skip Busy = false
is_skip (Lost worker) = false
is_skip (Skip leg skip) = true
is_skip (Miss leg seq) = false
is_skip Idle = false

abbrev pub is_miss : Out → Bool
is_miss (Send endpoint bytes) = false
is_miss (Refused refusal) = false
is_miss Busy = false
is_miss (Lost worker) = false
is_miss (Skip leg skip) = false
is_miss (Miss leg seq) = true
is_miss Idle = false

-- the datagrams came to the sink, each was sent or couldn't be, and with all else they came to these counts
pub record Adds (outs : List Out) (before after : SinkView) (former done : Forwarded) : Type 0 where
  pub handed : Grows before.handed (datagrams_of outs) after.handed
  pub tried : done.sent + done.failed ≡ former.sent + former.failed + length (datagrams_of outs)
  pub failures : after.failures + former.failed ≡ before.failures + done.failed
  pub skipped : done.skipped ≡ former.skipped + length (filter is_skip outs)
  pub missed : done.missed ≡ former.missed + length (filter is_miss outs)

abbrev pub nothing_done : Forwarded
nothing_done = record { sent = 0; failed = 0; skipped = 0; missed = 0 }

-- what is given out was handed over, each datagram was sent or couldn't be, and that is all that is counted
abbrev pub Sends : List Out → SinkView → SinkView → Forwarded → Type 0
Sends outs before after done = Adds outs before after nothing_done done

-- all that was counted
abbrev pub total_of : Forwarded → ℕ
total_of done = done.sent + done.failed + (done.skipped + done.missed)
