-- What a record begins with.
use Rattle.std.specs.Prelude.{◌≡◌, ℕ, List}
use Rattle.recording.specs.Lines.{header_text}
use Rattle.recording.specs.Tapes.{IsPut, TapeState, new_tape}
use Rattle.operations.specs.declared.record_file.TheConstants.{VERSION}

-- the head of a record of this program, by settings from a file with this SHA-256 but for these first numbers, whenever it began
abbrev pub IsHead : List ℕ → List ℕ → List ℕ → Type 0
IsHead settings first text =
    (began_ms : ℕ) × (text ≡ header_text VERSION.now settings began_ms first)

-- A record of at most so many bytes begins with the head of this program, by such settings, if it may have that many.
abbrev pub BeginsRecord : ℕ → List ℕ → List ℕ → TapeState → Type 0
BeginsRecord limit settings first tape =
    (head : List ℕ) × IsHead settings first head × IsPut (new_tape limit) head tape
