-- What is left of what was asked for is still as it was heard.
use Rattle.std.proofs.Common.{◌≡◌, ◌∙◌, ℕ, List, [], refl, ap}
use Rattle.datagram.specs.Spelling.{IsAsHeard}
use Rattle.datagram.specs.declared.reading.Ask.{Ask}
use Rattle.datagram.specs.declared.reading.What.{What}
use Rattle.datagram.specs.declared.reading.What.TheVariants.{Media, Goodbye, Control, Refused}
use Rattle.policy.specs.Asking.{Asking}
use Rattle.policy.specs.HeldRequests.{asks_left}
use Rattle.policy.specs.RateRequests.{PacesWord}
use Rattle.policy.specs.RequestGaps.{GapState, asks_passed, gaps_as_comes}
use Rattle.policy.specs.declared.presence_signal.PresenceSignal.{PresenceSignal}
use Rattle.policy.specs.declared.presence_signal.PresenceSignal.TheVariants.{Nothing, Speaks, Leaves}

nothing_left : (word : PresenceSignal) (a : Asking) → asks_left word a [] ≡ []
nothing_left Nothing a = refl
nothing_left Leaves a = refl
nothing_left (Speaks notifies) a = refl

none_left : (word : PresenceSignal) (a : Asking) (asks left : List Ask) → left ≡ asks_left word a asks → asks ≡ [] → left ≡ []
none_left word a asks left is none = is ∙ ap (asks_left word a) none ∙ nothing_left word a

pub left_as_heard : (own : ℕ) (what : What) (word : PresenceSignal) (a : Asking) (asks left : List Ask) (came : List ℕ) → left ≡ asks_left word a asks
    → IsAsHeard own what asks came → IsAsHeard own what left came
left_as_heard own (Media packet) word a asks left came is (none, says) = (none_left word a asks left is none, says)
left_as_heard own Goodbye word a asks left came is none = none_left word a asks left is none
left_as_heard own (Control c) word a asks left came is h = h
left_as_heard own (Refused refusal) word a asks left came is (none, says) = (none_left word a asks left is none, says)

-- ---- the same of what is heard at once

none_paced : (word : PresenceSignal) (s t : GapState) (a : Asking) (asks left : List Ask) → PacesWord word s t a asks left → asks ≡ [] → left ≡ []
none_paced Nothing s t a asks left is none = is.1 ∙ none
none_paced Leaves s t a asks left is none = is.1 ∙ none
none_paced (Speaks notifies) s t a asks left is none = is.left ∙ ap (asks_passed s.gap_ms a (gaps_as_comes a s.legs)) none

pub paced_as_heard : (own : ℕ) (what : What) (word : PresenceSignal) (s t : GapState) (a : Asking) (asks left : List Ask) (came : List ℕ)
    → PacesWord word s t a asks left → IsAsHeard own what asks came → IsAsHeard own what left came
paced_as_heard own (Media packet) word s t a asks left came is (none, says) = (none_paced word s t a asks left is none, says)
paced_as_heard own Goodbye word s t a asks left came is none = none_paced word s t a asks left is none
paced_as_heard own (Control c) word s t a asks left came is h = h
paced_as_heard own (Refused refusal) word s t a asks left came is (none, says) = (none_paced word s t a asks left is none, says)
