-- What `sfu bound` prints, and what it refuses.
use Rattle.std.specs.Prelude.{ℕ, List, Option, IfSome, Ok, Err}
use Rattle.std.specs.Io.KnownBytes.{Appends, Keeps}
use Rattle.bounding_set.specs.State.{State, AnnouncesSmallest}
use Rattle.drawing.specs.Picture.{picture_text}
use Rattle.request_text.specs.BoundText.{bound_text, refused_text}
use Rattle.request_text.specs.Lines.{Asked, Refused, AreRowsOf, HoldsLastWords, TextLeaves}
use Rattle.cli.specs.declared.status.Failure.{Failure}
use Rattle.cli.specs.declared.status.Failure.TheVariants.{NoMemory, Refused as RefusedLine, Io}

-- The state holds the requests that the input leaves, the last word of each owner, and announces the canonical choice of them,
-- which is smallest.
pub record AnnouncesInput (media : ℕ) (input : List ℕ) (state : State) : Type 0 where
  pub live : List Asked
  pub left : TextLeaves media input (Ok live)
  pub rows : AreRowsOf live state.rows
  pub last : HoldsLastWords media input state.rows
  pub announced : AnnouncesSmallest state

-- What is printed is the text of the set, and of its certificate, that is announced for the input.
pub record PrintsBound (media : ℕ) (input : List ℕ) (old new : Option (List ℕ)) : Type 0 where
  pub state : State
  pub announces : AnnouncesInput media input state
  pub printed : Appends old new (bound_text media state)

-- What is printed is the picture of what the input asks for, and of the set that is announced for it.
pub record PrintsPicture (media : ℕ) (input : List ℕ) (old new : Option (List ℕ)) : Type 0 where
  pub state : State
  pub announces : AnnouncesInput media input state
  pub printed : Appends old new (picture_text media state)

-- What goes to the error output is the stated line for the first fault of the input.
pub record RefusesBound (media : ℕ) (input : List ℕ) (old new : Option (List ℕ)) : Type 0 where
  pub refused : Refused
  pub first : TextLeaves media input (Err refused)
  pub shown : Appends old new (refused_text refused)

-- if a command isn't done for a fault of its input, nothing was printed
abbrev pub FailsBound : ℕ → Option (List ℕ) → Option (List ℕ) → Option (List ℕ) → Failure → Type 0
FailsBound media input old new NoMemory = Unit {0}
FailsBound media input old new Io = Unit {0}
FailsBound media input old new (RefusedLine line fault) =
    Keeps old new
    × IfSome input (λ text. TextLeaves media text (Err (record { line = line; fault = fault })))
