-- What an entrance lets in.
use Rattle.std.specs.Prelude.{ℕ, List, [], ◌∷◌, Option, Result, Ok, Err}
use Rattle.settings.specs.Links.{LinkTable}
use Rattle.desk_calls.specs.DeskCalls.{source_of}
use Rattle.datagram.specs.Reads.{Admission, IsPacketRead, IsSaidBy}
use Rattle.ports.specs.declared.source.ReceiveFault.{ReceiveFault}
use Rattle.ports.specs.Outside.{Arrival, came, chosen, stop, silence, failure, Grows}
use Rattle.entrance.specs.declared.entrance.Admitted.{Admitted}
use Rattle.entrance.specs.declared.entrance.Admitted.TheVariants.{Nothing, Taking, Select, Stop}

-- what came, if this datagram of the endpoint says what is taken in
abbrev pub arrival_by : Result Admitted ReceiveFault → ℕ → List ℕ → Arrival
arrival_by (Ok Nothing) endpoint datagram = silence
arrival_by (Ok Taking) endpoint datagram = came endpoint datagram
arrival_by (Ok (Select leg on)) endpoint datagram = chosen leg on
arrival_by (Ok Stop) endpoint datagram = stop
arrival_by (Err fault) endpoint datagram = failure

-- it is so if something is taken in
abbrev pub IfTaken : Result Admitted ReceiveFault → Type 0 → Type 0
IfTaken (Ok Nothing) P = Unit {0}
IfTaken (Ok Taking) P = P
IfTaken (Ok (Select leg on)) P = Unit {0}
IfTaken (Ok Stop) P = Unit {0}
IfTaken (Err fault) P = Unit {0}

-- The datagram, of the endpoint that this is taken in of, says it; a packet has the number and the octets of its bytes.
abbrev pub IsTakenFrom : LinkTable → Admission → List ℕ → Type 0
IsTakenFrom table t datagram =
    IsSaidBy (source_of table t.endpoint).0 t datagram × IsPacketRead t.bytes t.what

-- something came at some moment, and wasn't taken in
pub record ComesInVain (given : Option (List Arrival)) (told : Option (List ℕ))
    (given_now : Option (List Arrival)) (told_now : Option (List ℕ)) : Type 0 where
  pub arrival : Arrival
  pub moment : ℕ
  pub gives : Grows given (arrival ∷ []) given_now
  pub tells : Grows told (moment ∷ []) told_now
