-- The datagram that is handed to C.
use Rattle.std.specs.Prelude.{◌≡◌, ◌≢◌, ◌↔◌, ◌⊎◌, ◌≤◌, ◌∷◌, ℕ, List, [], length, take, drop}
use Rattle.ports.specs.declared.datagram.Datagram.{Datagram}
use Rattle.conference.specs.Conference.{ConferenceState, HandsNext}
use Rattle.sfu_c.specs.declared.faults.TheConstants.{DONE, NOTHING, NO_ROOM}
use Rattle.sfu_c.specs.declared.numbers.SfuNext.{SfuNext}

-- These stand at the front, and the rest is as it was.
pub record PutsInFront {A : Type 0} (front old new : List A) : Type 0 where
  pub put : take (length front) new ≡ front
  pub rest : drop (length front) new ≡ drop (length front) old

-- The answer says where the datagram goes and how many bytes it has. DONE, exactly if there is room for them: they stand at the
-- front of the buffer. Else NO_ROOM, and the buffer is as it was.
pub record WritesDatagram (d : Datagram) (old new : List ℕ) (answer : SfuNext) : Type 0 where
  pub endpoint : answer.endpoint ≡ d.endpoint
  pub size : answer.size ≡ length d.bytes
  pub numbered : (answer.fault ≡ DONE) ⊎ (answer.fault ≡ NO_ROOM)
  pub room : (answer.fault ≡ DONE) ↔ (length d.bytes ≤ length old)
  pub written : answer.fault ≡ DONE → PutsInFront d.bytes old new
  pub unwritten : answer.fault ≡ NO_ROOM → new ≡ old

-- the same of the oldest datagram that waits; NOTHING, if none does
abbrev pub AnswersNext : List Datagram → List ℕ → List ℕ → SfuNext → Type 0
AnswersNext [] old new answer =
    (answer ≡ record { fault = NOTHING; endpoint = 0; size = 0 }) × (new ≡ old)
AnswersNext (d ∷ others) old new answer = WritesDatagram d old new answer

-- The oldest datagram that waits is answered, and if it was written it is taken, after all that were taken since the opening;
-- nothing else changes.
pub record HandsOut (room_old room_new : List ℕ) (answer : SfuNext) (old new : ConferenceState)
    : Type 0 where
  pub answers : AnswersNext old.waiting room_old room_new answer
  pub world : new.world ≡ old.world
  pub taken : answer.fault ≡ DONE → new.waiting ≡ drop 1 old.waiting
  pub left : answer.fault ≢ DONE → new.waiting ≡ old.waiting
  pub handed : (d : Datagram) (others : List Datagram) → old.waiting ≡ d ∷ others
      → answer.fault ≡ DONE → HandsNext d old new
