-- How the commands end that need no machine: what each printed, and what it said on the error output, by the status that it ends with.
-- `input` is what there was to read, `old` and `new` what was printed before the command and is after it, `errors_old` and `errors_new` what
-- was said.
use Rattle.std.specs.Prelude.{◌≡◌, ◌≢◌, ℕ, List, Option, Ok, IfSome, codes}
use Rattle.std.specs.Io.KnownBytes.{Appends, Keeps}
use Rattle.cli.specs.Statuses.{SaysWhy}
use Rattle.cli.specs.Sheet.{AnswersFile, RefusesFile, SaysNo}
use Rattle.cli.specs.declared.words.Offline.{Offline}
use Rattle.cli.specs.declared.words.Offline.TheVariants as offline
use Rattle.cli.specs.declared.status.Status.{Status}
use Rattle.cli.specs.declared.status.Status.TheVariants as status
use Rattle.cli.specs.Printed.{PrintsBound, PrintsPicture, RefusesBound}

-- How `sfu bound` ends.
pub record EndsBound (media : ℕ) (input old new errors_old errors_new : Option (List ℕ))
    (s : Status) : Type 0 where
  -- if it is done, the text of the set that is announced for what the input leaves is printed
  pub done : s ≡ status.Done → IfSome input (λ text. PrintsBound media text old new)
  -- if it is refused, nothing is printed, and the line for the first fault of the input is said
  pub refused : s ≡ status.Refused
      → IfSome input (λ text. Keeps old new × RefusesBound media text errors_old errors_new)

-- How `sfu draw` ends.
pub record EndsDraw (media : ℕ) (input old new errors_old errors_new : Option (List ℕ))
    (s : Status) : Type 0 where
  -- if it is done, the picture of what the input leaves, and of the set that is announced for it, is printed
  pub done : s ≡ status.Done → IfSome input (λ text. PrintsPicture media text old new)
  -- if it is refused, nothing is printed, and the line for the first fault of the input is said
  pub refused : s ≡ status.Refused
      → IfSome input (λ text. Keeps old new × RefusesBound media text errors_old errors_new)

-- How `sfu check` ends.
pub record EndsCheck (old new errors_old errors_new : Option (List ℕ)) (s : Status) : Type 0 where
  -- if it is done, yes is printed
  pub done : s ≡ status.Done → Appends old new (codes "yes\n")
  -- if it is refused, a no is printed; or nothing is, and the line that can't be read is said
  pub refused : s ≡ status.Refused → SaysNo old new errors_old errors_new

-- How the check of a certificate ends whose text is the input.
pub record EndsCertificate (input old new errors_old errors_new : Option (List ℕ)) (s : Status)
    : Type 0 where
  -- whatever there was to read, it ends as `sfu check` does
  pub ends : EndsCheck old new errors_old errors_new s
  -- if it is done, the text's lines spell a certificate that holds
  pub certified : s ≡ status.Done → IfSome input (λ text. AnswersFile text old new (Ok tt))
  -- if it is refused, they spell one that doesn't, or a line can't be read
  pub refused : s ≡ status.Refused → RefusesFile input old new errors_old errors_new
  -- neither words nor settings are at fault
  pub understood : (s ≢ status.CommandLine) × (s ≢ status.Settings)
  -- what any command says of how it ends is said
  pub said : SaysWhy errors_old errors_new s

-- How `sfu --version` ends.
pub record EndsVersion (old new : Option (List ℕ)) (s : Status) : Type 0 where
  -- if it is done, the program's name and version are printed
  pub done : s ≡ status.Done → Appends old new (codes "sfu 1.0.0\n")
  -- it is never refused
  pub read : s ≢ status.Refused

-- how `sfu bound`, `sfu check`, `sfu draw` or `sfu --version` ends, whichever is asked for
abbrev pub EndsOffline : Offline → Option (List ℕ) → Option (List ℕ) → Option (List ℕ) → Option (List ℕ)
    → Option (List ℕ) → Status → Type 0
EndsOffline (offline.Bound media) input old new errors_old errors_new s =
    EndsBound media input old new errors_old errors_new s
EndsOffline (offline.Check file) input old new errors_old errors_new s =
    EndsCheck old new errors_old errors_new s
EndsOffline (offline.Draw media) input old new errors_old errors_new s =
    EndsDraw media input old new errors_old errors_new s
EndsOffline offline.Version input old new errors_old errors_new s = EndsVersion old new s
