-- What the lines of `sfu bound` leave.
use Rattle.std.specs.Prelude.{◌≡◌, ◌==◌, ℕ, ◌+◌, ◌⊎◌, nat_lt, List, [], ◌∷◌, ◌++◌, length, Option, None, Some, option_map, Result, Ok, Err, if◌then◌else◌}
use Rattle.std.specs.List.{slice_split}
use Rattle.hex.specs.Hex.{decode_of}
use Rattle.tmmbr_tuple.specs.Tuple.{word_of}
use Rattle.rate_cert.specs.declared.request.Request.{Request}
use Rattle.bounding_set.specs.declared.rows.TheConstants.{LIVE_LIMIT}
use Rattle.bounding_set.specs.Rows.{HasRisingOwners, tuple_of}
use Rattle.request_text.specs.declared.fault.LineFault.{LineFault}
use Rattle.request_text.specs.declared.fault.LineFault.TheVariants.{Hex, Full}
use Rattle.request_text.specs.Asked.{Change, asks, leaves, DatagramAsks}

-- a live request: its owner, and the word that it asked for last
pub record Asked : Type 0 where
  pub owner : ℕ
  pub word : ℕ

abbrev pub word_for : List Asked → ℕ → Option ℕ
word_for [] owner = None
word_for (a ∷ live) owner = if a.owner == owner then Some a.word else word_for live owner

-- the owner's word is replaced if it is live; else it comes after the others
abbrev pub put_word : List Asked → ℕ → ℕ → List Asked
put_word [] owner word = record { owner = owner; word = word } ∷ []
put_word (a ∷ live) owner word =
    if a.owner == owner then record { owner = owner; word = word } ∷ live
    else a ∷ put_word live owner word

-- the others, once the owner has left
abbrev pub without : List Asked → ℕ → List Asked
without [] owner = []
without (a ∷ live) owner = if a.owner == owner then live else a ∷ without live owner

-- a request is refused if it makes more live ones than may be
abbrev pub after_change : Change → List Asked → Result (List Asked) LineFault
after_change (asks owner word) live =
    if nat_lt (length (put_word live owner word)) (LIVE_LIMIT + 1)
    then Ok (put_word live owner word) else Err Full
after_change (leaves owner) live = Ok (without live owner)

infixl 10 ◌>>=◌
abbrev pub ◌>>=◌ : {A B E : Type 0} → Result A E → (A → Result B E) → Result B E
(Ok x) >>= f = f x
(Err e) >>= f = Err e

-- changes in order
abbrev pub after_changes : List Change → List Asked → Result (List Asked) LineFault
after_changes [] live = Ok live
after_changes (c ∷ changes) live = after_change c live >>= after_changes changes

-- what a line stands for: nothing if it is empty or begins with #, else the hexadecimal text of a datagram
pub data Spelled : Type 0 where
  skipped : Spelled
  datagram : List ℕ → Spelled
  no_hex : Spelled

abbrev pub spelling_of : {E : Type 0} → Result (List ℕ) E → Spelled
spelling_of (Ok bytes) = datagram bytes
spelling_of (Err e) = no_hex

abbrev pub spelled_by : List ℕ → Spelled
spelled_by [] = skipped
spelled_by (b ∷ bs) = if b == 35 then skipped else spelling_of (decode_of (b ∷ bs))

abbrev pub Demands : ℕ → Spelled → Result (List Change) LineFault → Type 0
Demands media skipped asked = asked ≡ Ok []
Demands media (datagram bytes) asked = DatagramAsks media bytes asked
Demands media no_hex asked = asked ≡ Err Hex

-- what is live after a line, or the line's fault
pub record LineLeaves (media : ℕ) (line : List ℕ) (live : List Asked)
    (left : Result (List Asked) LineFault) : Type 0 where
  pub asked : Result (List Change) LineFault
  pub says : Demands media (spelled_by line) asked
  pub done : left ≡ (asked >>= λ changes. after_changes changes live)

-- a fault, with the number of its line
pub record Refused : Type 0 where
  pub line : ℕ
  pub fault : LineFault

-- what is live after lines, of which the first has this number, or the first fault
abbrev pub LinesLeave : ℕ → ℕ → List (List ℕ) → List Asked → Result (List Asked) Refused → Type 0
LinesLeave media n [] live left = left ≡ Ok live
LinesLeave media n (line ∷ lines) live left =
    ((next : List Asked) × LineLeaves media line live (Ok next)
    × LinesLeave media (n + 1) lines next left)
    ⊎ ((fault : LineFault) × LineLeaves media line live (Err fault)
    × (left ≡ Err (record { line = n; fault = fault })))

-- A line ends at a newline or at the end of the text.
abbrev pub lines_of : List ℕ → List (List ℕ)
lines_of text = slice_split (λ b. b == 10) text

-- the requests that a text leaves, or its first fault
abbrev pub TextLeaves : ℕ → List ℕ → Result (List Asked) Refused → Type 0
TextLeaves media text left = LinesLeave media 1 (lines_of text) [] left

-- lines that can be read ask one after the other
abbrev pub LinesAsk : ℕ → List (List ℕ) → List Change → Type 0
LinesAsk media [] changes = changes ≡ []
LinesAsk media (line ∷ lines) changes =
    (first : List Change) × (others : List Change) × Demands media (spelled_by line) (Ok first)
    × LinesAsk media lines others × (changes ≡ first ++ others)

-- what an owner asks for after changes: the word of the last that names it; none after its leave
abbrev pub word_after : Option ℕ → List Change → ℕ → Option ℕ
word_after word [] owner = word
word_after word (asks o w ∷ changes) owner =
    word_after (if o == owner then Some w else word) changes owner
word_after word (leaves o ∷ changes) owner =
    word_after (if o == owner then None else word) changes owner

-- The text asks for these changes, and each owner has a row just if it asks for a word last: for that word.
pub record HoldsLastWords (media : ℕ) (text : List ℕ) (rows : List Request) : Type 0 where
  pub changes : List Change
  pub asked : LinesAsk media (lines_of text) changes
  pub words : (owner : ℕ) → option_map word_of (tuple_of rows owner) ≡ word_after None changes owner

-- each owner once
abbrev pub HasOwnersOnce : List Asked → Type 0
HasOwnersOnce [] = Unit {0}
HasOwnersOnce (a ∷ live) = (word_for live a.owner ≡ None) × HasOwnersOnce live

-- the rows have just these requests, by rising owner
pub record AreRowsOf (live : List Asked) (rows : List Request) : Type 0 where
  pub once : HasOwnersOnce live
  pub rising : HasRisingOwners rows
  pub words : (owner : ℕ) → option_map word_of (tuple_of rows owner) ≡ word_for live owner
  pub count : length rows ≡ length live
