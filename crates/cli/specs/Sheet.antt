-- How the calls that read a file of `sfu check` meet what its lines spell.
use Rattle.std.specs.Prelude.{◌≡◌, ◌⊎◌, ℕ, List, Option, None, Some, Result, Err, IfSome, MatchResult}
use Rattle.std.specs.Io.KnownBytes.{Appends, Keeps}
use Rattle.tmmbr_tuple.specs.declared.ssrc.Ssrc.{Ssrc}
use Rattle.rate_cert.specs.declared.request.Request.{Request}
use Rattle.rate_cert.specs.declared.certificate.Kept.{Kept}
use Rattle.rate_cert.specs.declared.fault.CertFault.{CertFault}
use Rattle.request_text.specs.declared.bound.Refusal.{Refusal}
use Rattle.request_text.specs.declared.bound.Refusal.TheVariants.{NoMemory, Line}
use Rattle.cli.specs.declared.status.Failure.{Failure}
use Rattle.cli.specs.declared.status.Failure.TheVariants as failure
use Rattle.request_text.specs.declared.entry.Claim.{Claim}
use Rattle.request_text.specs.declared.entry.Entry.{Entry}
use Rattle.request_text.specs.declared.fault.LineFault.TheVariants.{Text}
use Rattle.request_text.specs.BoundText.{answer_text, refused_text}
use Rattle.request_text.specs.CheckFile.{FileSpells, LineAdds, TextAnswers, claims_from, kept_from, requests_of}

-- these lists are what the entries say
pub record IsSheetOf (entries : List Entry) (requests : List Request) (kepts : List (Ssrc × Kept))
    (claims : List (ℕ × Claim)) : Type 0 where
  pub asked : requests ≡ requests_of entries
  pub kept : kepts ≡ kept_from 0 entries
  pub implied : claims ≡ claims_from 0 entries

-- a call that takes an entry in left these lists, or refused the line with this number
abbrev pub RefusesAt : ℕ → Type 0 → Refusal → Type 0
RefusesAt number Fact NoMemory = Unit {0}
RefusesAt number Fact (Line line fault) = (line ≡ number) × (fault ≡ Text) × Fact

abbrev pub Takes : Option (List Entry) → ℕ → List Request → List (Ssrc × Kept) → List (ℕ × Claim)
    → Result (Unit {0}) Refusal → Type 0
Takes next number requests kepts claims r =
    MatchResult r (λ _. (entries : List Entry) × (next ≡ Some entries)
    × IsSheetOf entries requests kepts claims) (RefusesAt number (next ≡ None))

-- the same of a line
abbrev pub TakesLine : List ℕ → List Entry → ℕ → List Request → List (Ssrc × Kept)
    → List (ℕ × Claim) → Result (Unit {0}) Refusal → Type 0
TakesLine line entries number requests kepts claims r =
    MatchResult r (λ _. (next : List Entry) × LineAdds line entries (Some next)
    × IsSheetOf next requests kepts claims)
    (RefusesAt number (LineAdds line entries None))

-- why there is no sheet of a text
abbrev pub RefusesSheet : List ℕ → Refusal → Type 0
RefusesSheet text NoMemory = Unit {0}
RefusesSheet text (Line line fault) = (fault ≡ Text) × FileSpells text (Err line)

-- what was printed is the answer for the text
pub record AnswersFile (text : List ℕ) (old new : Option (List ℕ))
    (answer : Result (Unit {0}) CertFault) : Type 0 where
  pub is : TextAnswers text answer
  pub printed : Appends old new (answer_text answer)

-- if there is no answer for a fault of the file, nothing was printed: its line can't be read, or all of it can't
abbrev pub FailsFile : Option (List ℕ) → Option (List ℕ) → Option (List ℕ) → Failure → Type 0
FailsFile file old new failure.NoMemory = Unit {0}
FailsFile file old new failure.Io = Unit {0}
FailsFile file old new (failure.Refused line fault) =
    (fault ≡ Text) × Keeps old new × ((line ≡ 0) ⊎ IfSome file (λ text. FileSpells text (Err line)))

-- A no for the text is printed; or nothing is, and the error output has its first line that can't be read, or line 0 if
-- the file can't.
abbrev pub RefusesFile : Option (List ℕ) → Option (List ℕ) → Option (List ℕ) → Option (List ℕ)
    → Option (List ℕ) → Type 0
RefusesFile file old new errors_old errors_new =
    ((fault : CertFault) × IfSome file (λ text. AnswersFile text old new (Err fault)))
    ⊎ ((line : ℕ) × Keeps old new
    × Appends errors_old errors_new (refused_text (record { line = line; fault = Text }))
    × ((line ≡ 0) ⊎ IfSome file (λ text. FileSpells text (Err line))))

-- a no of `check` is printed; or nothing is, and the line that can't be read is on the error output
abbrev pub SaysNo : Option (List ℕ) → Option (List ℕ) → Option (List ℕ) → Option (List ℕ) → Type 0
SaysNo old new errors_old errors_new =
    ((fault : CertFault) × Appends old new (answer_text (Err fault)))
    ⊎ ((line : ℕ) × Keeps old new
    × Appends errors_old errors_new (refused_text (record { line = line; fault = Text })))
