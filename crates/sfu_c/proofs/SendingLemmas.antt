-- What is answered for the oldest datagram that waits.
use Rattle.std.proofs.Common.{◌≡◌, ◌∙◌, ℕ, List, [], ◌∷◌, drop, refl, sym, ap, subst, Option, None, Some, slice_get}
use Rattle.ports.specs.declared.datagram.Datagram.{Datagram}
use Rattle.conference.specs.Conference.{ConferenceState, HandsNext}
use Rattle.conference.proofs.ServedLemmas.{hands_out}
use Rattle.sfu_c.specs.declared.numbers.SfuNext.{SfuNext}
use Rattle.sfu_c.specs.declared.faults.TheConstants.{DONE, NOTHING}
use Rattle.sfu_c.specs.Sending.{AnswersNext, HandsOut, WritesDatagram}

some_is : {A : Type 0} (x y : A) → Some x ≡ Some y → x ≡ y
some_is x y e = ap (λ (o : Option _). elim o [ None ↦ x | Some z ↦ z ]) e

pub answers_datagram : (waiting : List Datagram) (old new : List ℕ) (answer : SfuNext) (d : Datagram)
    → Some d ≡ slice_get waiting 0 → WritesDatagram d old new answer → AnswersNext waiting old new answer
answers_datagram [] old new answer d is writes = absurd (cc)
answers_datagram (e ∷ others) old new answer d is writes =
    subst (λ (x : Datagram). WritesDatagram x old new answer) (some_is d e is) writes

pub answers_nothing : (waiting : List Datagram) (old : List ℕ) (answer : SfuNext)
    → answer ≡ record { fault = NOTHING; endpoint = 0; size = 0 }
    → None ≡ slice_get waiting 0 → AnswersNext waiting old old answer
answers_nothing [] old answer is none = (is, refl)
answers_nothing (e ∷ others) old answer is none = absurd (cc)

hands_next : (d : Datagram) (others : List Datagram) (old new : ConferenceState) → old.waiting ≡ d ∷ others
    → new.waiting ≡ drop 1 old.waiting → new.world ≡ old.world → HandsNext d old new
hands_next d others old new is taken world =
    let left : new.waiting ≡ others = taken ∙ ap (λ (l : List Datagram). drop 1 l) is in
    hands_out d old new (is ∙ ap (λ (l : List Datagram). d ∷ l) (sym left)) world

-- what was written is taken
pub hands_written : (room_old room_new : List ℕ) (answer : SfuNext) (old new : ConferenceState) → answer.fault ≡ DONE
    → AnswersNext old.waiting room_old room_new answer → new.waiting ≡ drop 1 old.waiting → new.world ≡ old.world
    → HandsOut room_old room_new answer old new
hands_written room_old room_new answer old new done answers taken world = record {
  answers = answers;
  world = world;
  taken = λ _. taken;
  left = λ other. absurd (other done);
  handed = λ d others is _. hands_next d others old new is taken world;
}
