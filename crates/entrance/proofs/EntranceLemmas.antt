-- What was read of a datagram is taken in of it.
use Rattle.std.proofs.Common.{◌≡◌, ℕ, List, None, Result, Ok, Err, refl, subst}
use Rattle.std.specs.Prelude.{OnOk}
use Rattle.tmmbr_tuple.specs.declared.ssrc.Ssrc.{Ssrc}
use Rattle.settings.specs.Links.{LinkTable}
use Rattle.desk_calls.specs.DeskCalls.{source_of}
use Rattle.datagram.specs.declared.reading.What.{What}
use Rattle.datagram.specs.declared.reading.What.TheVariants.{Media, Goodbye, Control, Refused}
use Rattle.datagram.specs.Reads.{HasBytes, IsPacketRead, IsReadUpTo, IsSaidIn, was_read}
use Rattle.datagram.specs.declared.reading.Reading.{Reading}
use Rattle.datagram.proofs.ReaderLemmas.{read_whole}
use Rattle.entrance.specs.Entrance.{IsTakenFrom}

has_own_bytes : (what : What) (bytes : List ℕ) → HasBytes what bytes bytes
has_own_bytes (Media m) bytes = refl
has_own_bytes Goodbye bytes = tt
has_own_bytes (Control c) bytes = tt
has_own_bytes (Refused refusal) bytes = tt

pub taken_as_read : {E : Type 0} (r : Result (Unit {0}) E) (table : LinkTable) (own : Ssrc) (endpoint : ℕ) (came bytes : List ℕ) (read : Reading)
    → own ≡ source_of table endpoint → came ≡ bytes → OnOk r (IsReadUpTo own.0 came None read) → OnOk r (IsPacketRead came read.what)
    → OnOk r (IsTakenFrom table (record { endpoint = endpoint; what = read.what; asks = read.asks.items; bytes = bytes }) bytes)
taken_as_read (Err e) table own endpoint came bytes read eo eb reads packet = tt
taken_as_read (Ok u) table own endpoint came bytes read eo eb reads packet = (
  (
    subst (λ (b : List ℕ). IsSaidIn (source_of table endpoint).0 b (was_read read)) eb
        (subst (λ (o : Ssrc). IsSaidIn o.0 came (was_read read)) eo (read_whole own.0 came read reads)),
    has_own_bytes read.what bytes,
  ),
  subst (λ (b : List ℕ). IsPacketRead b read.what) eb packet,
)
