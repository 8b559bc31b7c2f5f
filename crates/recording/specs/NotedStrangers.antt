-- Of which unknown senders a record has a line.
use Rattle.std.specs.Prelude.{◌≡◌, ◌⊎◌, ◌&&◌, ◌+◌, ◌-◌, ◌^◌, ℕ, nat_le, min, not, Bool, List, [], ◌∷◌, take}
use Rattle.std.specs.List.{list_any}
use Rattle.recording.specs.Lines.{stranger_line}
use Rattle.recording.specs.Tapes.{IsMadeAndPut, TapeState}
use Rattle.recording.specs.declared.strangers.UnknownSender.{UnknownSender}
use Rattle.recording.specs.declared.strangers.TheConstants.{MAX_NOTED, STRANGER_EACH_MS}

-- those of whom it has one, the latest first, and the moment from which on it may have the next
pub record NotedState : Type 0 where
  pub senders : List UnknownSender
  pub due : ℕ

abbrev pub none_noted : NotedState
none_noted = record { senders = []; due = 0 }

-- a line is due of who isn't among them, if the last is old enough
abbrev pub is_stranger_due : (UnknownSender → UnknownSender → Bool) → NotedState → UnknownSender → ℕ → Bool
is_stranger_due same n sender moment =
    nat_le n.due moment && not (list_any (λ known. same known sender) n.senders)

-- one more, and no more than so many
abbrev pub with_noted : NotedState → UnknownSender → ℕ → NotedState
with_noted n sender moment = record {
  senders = take MAX_NOTED (sender ∷ n.senders);
  due = min (moment + STRANGER_EACH_MS) (2 ^ 64 - 1);
}

-- Who is noted has its line, if the record has room for it; or else, for want of memory, nothing is noted.
abbrev pub IsStrangerNoted : NotedState → UnknownSender → ℕ → NotedState → TapeState → TapeState → Type 0
IsStrangerNoted before sender moment after old new =
    (after ≡ with_noted before sender moment) × IsMadeAndPut old (stranger_line moment sender) new
    ⊎ (after ≡ before) × (new ≡ old)
