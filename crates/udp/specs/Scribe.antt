-- What a record has of what is let in, so that a replay takes in the same.
use Rattle.std.specs.Prelude.{◌≡◌, ◌⊎◌, ◌++◌, ℕ, true, false, List, [], Option, Result, Ok, Err}
use Rattle.datagram.specs.Reads.{IsSaidIn, was_read}
use Rattle.datagram.specs.Spelling.{IsAsHeard}
use Rattle.datagram.specs.declared.reading.What.{What}
use Rattle.datagram.specs.declared.reading.What.TheVariants.{Media, Goodbye, Control, Refused}
use Rattle.entrance.specs.declared.entrance.Admitted.{Admitted}
use Rattle.entrance.specs.declared.entrance.Admitted.TheVariants as admitted
use Rattle.events.specs.declared.event.Event.TheVariants.{Hear, Select}
use Rattle.ports.specs.declared.source.ReceiveFault.{ReceiveFault}
use Rattle.recording.specs.HandedOn.{IsWritten}
use Rattle.recording.specs.Lines.{after_came, event_lines, made_mark}
use Rattle.recording.specs.Tapes.{TapeState, ended}
use Rattle.recording.specs.declared.tape.End.TheVariants.{Memory}
use Rattle.udp.specs.Kept.{bytes_of, datagram_in}
use Rattle.udp.specs.declared.kept.Kept.{Kept}

-- what is kept is as it was heard, or made of that
abbrev pub IsKeptAsHeard : Kept → Type 0
IsKeptAsHeard k = IsAsHeard k.sent.own.0 k.reading.what k.reading.asks.items (bytes_of k)

-- the bytes that came say what is kept
abbrev pub IsWhatCame : Kept → Type 0
IsWhatCame k = IsSaidIn k.sent.own.0 (bytes_of k) (was_read k.reading)

-- RTCP packets are read once more, to compare; a packet of media, and what is refused, is always what came
abbrev pub IsReadAgain : What → Type 0
IsReadAgain (Media packet) = ⊥
IsReadAgain Goodbye = Unit {0}
IsReadAgain (Control c) = Unit {0}
IsReadAgain (Refused refusal) = ⊥

-- the lines of the datagram that says what is kept
abbrev pub spelled_lines : ℕ → Kept → List ℕ
spelled_lines moment k = event_lines (Hear moment k.sent.endpoint (datagram_in k))

-- lines are put, and what waits may be handed on; or for want of memory the record ends
abbrev pub PutsOrEnds : TapeState → List ℕ → TapeState → Type 0
PutsOrEnds old lines new = IsWritten old lines new ⊎ (new ≡ ended Memory old)

-- What is kept is put at this moment as a datagram that says it: what came, if that does. Else it is spelled, behind a mark if the unit made it in
-- the endpoint's name, of whom one came last at the moment `heard`, and behind what came if a rule changed that.
pub record TakesDown (moment : ℕ) (k : Kept) (heard : Option ℕ) (old new : TapeState) : Type 0 where
  pub made : k.is_made ≡ true → PutsOrEnds old (made_mark heard ++ spelled_lines moment k) new
  pub came : k.is_made ≡ false → IsWhatCame k
      → PutsOrEnds old (event_lines (Hear moment k.sent.endpoint (bytes_of k))) new
  pub changed : k.is_made ≡ false → (IsWhatCame k → ⊥)
      → PutsOrEnds old (after_came (bytes_of k) (spelled_lines moment k)) new

-- what is put if this was let in
abbrev pub NotesDown : ℕ → Result Admitted ReceiveFault → Kept → Option ℕ → TapeState → TapeState → Type 0
NotesDown moment (Ok admitted.Nothing) k heard old new = IsWritten old [] new
NotesDown moment (Ok admitted.Taking) k heard old new = TakesDown moment k heard old new
NotesDown moment (Ok (admitted.Select leg on)) k heard old new =
    IsWritten old (event_lines (Select moment leg on)) new
NotesDown moment (Ok admitted.Stop) k heard old new = IsWritten old [] new
NotesDown moment (Err fault) k heard old new = IsWritten old [] new
