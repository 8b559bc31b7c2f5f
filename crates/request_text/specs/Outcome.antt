-- How the calls that take lines in meet what the lines leave.
use Rattle.std.specs.Prelude.{◌≡◌, ℕ, List, Result, Ok, Err, MatchResult}
use Rattle.rate_cert.specs.declared.request.Request.{Request}
use Rattle.bounding_set.specs.State.{State}
use Rattle.hex.specs.declared.error.FromHexError.{FromHexError}
use Rattle.hex.specs.declared.error.FromHexError.TheVariants.{OutOfMemory}
use Rattle.request_text.specs.declared.fault.LineFault.{LineFault}
use Rattle.request_text.specs.declared.fault.LineFault.TheVariants.{Hex}
use Rattle.request_text.specs.declared.bound.Refusal.{Refusal}
use Rattle.request_text.specs.declared.bound.Refusal.TheVariants.{NoMemory, Line}
use Rattle.request_text.specs.Asked.{Change, DatagramAsks}
use Rattle.request_text.specs.Lines.{Asked, AreRowsOf, HoldsLastWords, LineLeaves, TextLeaves, after_changes, ◌>>=◌}

-- the rows are those of what is left
abbrev pub HasRowsOf : Result (List Asked) LineFault → List Request → Type 0
HasRowsOf says rows = (live : List Asked) × (says ≡ Ok live) × AreRowsOf live rows

-- a call left these rows, or gave the fault
abbrev pub Leaves : Result (List Asked) LineFault → List Request → Result (Unit {0}) LineFault
    → Type 0
Leaves says rows r = MatchResult r (λ _. HasRowsOf says rows) (λ fault. says ≡ Err fault)

-- what is live after a datagram, or its fault
pub record DatagramLeaves (media : ℕ) (bytes : List ℕ) (live : List Asked)
    (left : Result (List Asked) LineFault) : Type 0 where
  pub asked : Result (List Change) LineFault
  pub says : DatagramAsks media bytes asked
  pub done : left ≡ (asked >>= λ changes. after_changes changes live)

abbrev pub LeavesDatagram : ℕ → List ℕ → List Asked → List Request → Result (Unit {0}) LineFault
    → Type 0
LeavesDatagram media bytes live rows r =
    MatchResult r
    (λ _. (next : List Asked) × DatagramLeaves media bytes live (Ok next) × AreRowsOf next rows)
    (λ fault. DatagramLeaves media bytes live (Err fault))

-- why a line isn't decoded
abbrev pub undecoded_at : ℕ → FromHexError → Refusal
undecoded_at line OutOfMemory = NoMemory
undecoded_at line error = Line line Hex

-- the same for a line and for a whole text, for which memory may be wanting
abbrev pub RefusesLine : ℕ → ℕ → List ℕ → List Asked → Refusal → Type 0
RefusesLine media number line live NoMemory = Unit {0}
RefusesLine media number line live (Line n fault) =
    (n ≡ number) × LineLeaves media line live (Err fault)

abbrev pub LeavesLine : ℕ → ℕ → List ℕ → List Asked → List Request → Result (Unit {0}) Refusal
    → Type 0
LeavesLine media number line live rows r =
    MatchResult r
    (λ _. (next : List Asked) × LineLeaves media line live (Ok next) × AreRowsOf next rows)
    (RefusesLine media number line live)

abbrev pub RefusesText : ℕ → List ℕ → Refusal → Type 0
RefusesText media text NoMemory = Unit {0}
RefusesText media text (Line line fault) =
    TextLeaves media text (Err (record { line = line; fault = fault }))

abbrev pub LeavesText : ℕ → List ℕ → Result State Refusal → Type 0
LeavesText media text r =
    MatchResult r (λ s. (live : List Asked) × TextLeaves media text (Ok live)
    × AreRowsOf live s.rows × HoldsLastWords media text s.rows)
    (RefusesText media text)
