-- What contracts see of the outside: what a feed gave, and what a sink was handed.
use Rattle.std.specs.Prelude.{◌≡◌, ◌≤◌, ℕ, Bool, true, false, List, [], ◌∷◌, ◌++◌, flat_map, take, Option, None, Some, option_map, Result, Ok, Err}
use Rattle.events.specs.declared.output.Out.{Out}
use Rattle.events.specs.declared.output.Out.TheVariants.{Send, Refused, Busy, Lost, Skip, Miss, Idle}
use Rattle.ports.specs.declared.datagram.Datagram.{Datagram}
use Rattle.ports.specs.declared.source.ReceiveFault.{ReceiveFault}
use Rattle.ports.specs.declared.feed.Received.{Received}
use Rattle.ports.specs.declared.feed.Received.TheVariants.{Nothing, Datagram as datagram_of, Select, Stop}

-- These came after those before; or what came isn't known any more.
abbrev pub Grows : {A : Type 0} → Option (List A) → List A → Option (List A) → Type 0
Grows before more None = Unit {0}
Grows before more (Some all) = option_map (λ known. known ++ more) before ≡ Some all

-- ---- a feed

-- What a receive gave: a datagram of an endpoint, a leg that is switched on or off, the end of the run, silence, or a failure.
pub data Arrival : Type 0 where
  came : (endpoint : ℕ) → (bytes : List ℕ) → Arrival
  chosen : (leg : ℕ) → (on : Bool) → Arrival
  stop : Arrival
  silence : Arrival
  failure : Arrival

-- what came of a source: a datagram of an endpoint, which is so long, or nothing
abbrev pub received_of : Option (ℕ × ℕ) → Received
received_of None = Nothing
received_of (Some (endpoint, size)) = datagram_of endpoint size

-- a datagram that was received has no more bytes than the buffer
abbrev pub FitsIn : ℕ → Received → Type 0
FitsIn size Nothing = Unit {0}
FitsIn size (datagram_of endpoint count) = count ≤ size
FitsIn size (Select leg on) = Unit {0}
FitsIn size Stop = Unit {0}

-- what stands in the buffer after a receive that gave this
abbrev pub arrival_in : List ℕ → Received → Arrival
arrival_in buffer Nothing = silence
arrival_in buffer (datagram_of endpoint count) = came endpoint (take count buffer)
arrival_in buffer (Select leg on) = chosen leg on
arrival_in buffer Stop = stop

-- the same of one that may have failed
abbrev pub arrival_of : List ℕ → Result Received ReceiveFault → Arrival
arrival_of buffer (Ok received) = arrival_in buffer received
arrival_of buffer (Err fault) = failure

-- whether the run is to end
abbrev pub is_stop : Arrival → Bool
is_stop (came endpoint bytes) = false
is_stop (chosen leg on) = false
is_stop stop = true
is_stop silence = false
is_stop failure = false

-- ---- a sink

-- the datagrams that were handed over, failed ones too, if that is known; and how many sends failed
pub record SinkView : Type 0 where
  pub handed : Option (List Datagram)
  pub failures : ℕ

-- ---- what is given out

abbrev pub datagram_in : Out → List Datagram
datagram_in (Send endpoint bytes) = record { endpoint = endpoint; bytes = bytes } ∷ []
datagram_in (Refused refusal) = []
datagram_in Busy = []
datagram_in (Lost worker) = []
datagram_in (Skip leg skip) = []
datagram_in (Miss leg seq) = []
datagram_in Idle = []

-- the datagrams among what is given out, in order
abbrev pub datagrams_of : List Out → List Datagram
datagrams_of outs = flat_map datagram_in outs
