-- How often a subscriber's requests for a rate are heard on a leg (RFC 5104, section 4.2.1): once in a gap at most; of those that come within it the
-- last one waits, and is heard once it is over.
use Rattle.std.specs.Prelude.{⊤, ◌≡◌, ◌⊎◌, ◌≤◌, ◌-◌, ◌+◌, ◌&&◌, ◌==◌, ℕ, nat_le, nat_lt, Bool, true, List, [], ◌∷◌, map, Option, None, Some, option_map, slice_get, slice_set, if◌then◌else◌}
use Rattle.members.specs.Room.{RoomState}
use Rattle.members.specs.declared.view.RoomView.{RoomView}
use Rattle.settings.specs.Links.{LinkTable}
use Rattle.settings.specs.Settings.{Configuration}
use Rattle.settings.specs.declared.settings.LegSettings.{LegSettings}
use Rattle.datagram.specs.declared.reading.Ask.{Ask}
use Rattle.policy.specs.Again.{asked_on, or_next}
use Rattle.policy.specs.Asking.{Asking}
use Rattle.policy.specs.Presence.{is_there}
use Rattle.policy.specs.Requests.{asked_by}
use Rattle.policy.specs.declared.again.Again.{Again}
use Rattle.policy.specs.declared.request_gaps.LegGap.{LegGap}
use Rattle.policy.specs.declared.request_gaps.Look.{Look}

-- ---- one leg

-- nothing was heard of this leg
abbrev pub unheard : LegSettings → LegGap
unheard leg = record { subscriber = leg.subscriber; heard = None; waiting = None }

abbrev pub is_past : ℕ → ℕ → Option ℕ → Bool
is_past gap moment None = true
is_past gap moment (Some heard) = nat_le gap (moment - heard)

-- no request of it was heard within the gap
abbrev pub is_open : ℕ → ℕ → LegGap → Bool
is_open gap moment g = is_past gap moment g.heard

-- a request of it is heard
abbrev pub heard_at : ℕ → LegGap → LegGap
heard_at moment g = record { subscriber = g.subscriber; heard = Some moment; waiting = None }

-- its subscriber asks for this: it is heard, or waits in place of what waited
abbrev pub gap_asked : ℕ → ℕ → ℕ → LegGap → LegGap
gap_asked gap moment word g =
    if is_open gap moment g then heard_at moment g
    else record { subscriber = g.subscriber; heard = g.heard; waiting = Some word }

-- this endpoint left: nothing of it waits
abbrev pub leg_without : ℕ → LegGap → LegGap
leg_without subscriber g = if g.subscriber == subscriber then record g { waiting = None } else g

-- ---- what is asked for: each by what was heard of its leg before it

abbrev pub passes_at : ℕ → ℕ → Option LegGap → Bool
passes_at gap moment None = true
passes_at gap moment (Some g) = is_open gap moment g

abbrev pub passes_on : ℕ → ℕ → List LegGap → Option (ℕ × ℕ) → Bool
passes_on gap moment legs None = true
passes_on gap moment legs (Some asked) = passes_at gap moment (slice_get legs asked.0)

-- it is heard at once; so is all that isn't a rate on a leg to who asks
abbrev pub passes : ℕ → Asking → List LegGap → Ask → Bool
passes gap a legs ask = passes_on gap a.moment legs (asked_by a.table a.endpoint ask)

abbrev pub gaps_at : ℕ → ℕ → List LegGap → ℕ → ℕ → Option LegGap → List LegGap
gaps_at gap moment legs leg word None = legs
gaps_at gap moment legs leg word (Some g) = slice_set legs leg (gap_asked gap moment word g)

abbrev pub gaps_on : ℕ → ℕ → List LegGap → Option (ℕ × ℕ) → List LegGap
gaps_on gap moment legs None = legs
gaps_on gap moment legs (Some asked) =
    gaps_at gap moment legs asked.0 asked.1 (slice_get legs asked.0)

abbrev pub gaps_with : ℕ → Asking → List LegGap → Ask → List LegGap
gaps_with gap a legs ask = gaps_on gap a.moment legs (asked_by a.table a.endpoint ask)

-- what of it is heard at once, in its order
abbrev pub asks_passed : ℕ → Asking → List LegGap → List Ask → List Ask
asks_passed gap a legs [] = []
asks_passed gap a legs (ask ∷ asks) =
    if passes gap a legs ask then ask ∷ asks_passed gap a (gaps_with gap a legs ask) asks
    else asks_passed gap a (gaps_with gap a legs ask) asks

abbrev pub gaps_after : ℕ → Asking → List LegGap → List Ask → List LegGap
gaps_after gap a legs [] = legs
gaps_after gap a legs (ask ∷ asks) = gaps_after gap a (gaps_with gap a legs ask) asks

-- ---- all legs

-- the gap, what was heard of each leg, and the least number of one that wasn't looked at since the last tick
pub record GapState : Type 0 where
  pub gap_ms : ℕ
  pub legs : List LegGap
  pub next : Option ℕ

abbrev pub new_gaps : Configuration → ℕ → GapState
new_gaps c gap_ms = record { gap_ms = gap_ms; legs = map unheard c.legs; next = None }

abbrev pub gaps_without : ℕ → GapState → GapState
gaps_without subscriber s =
    record { gap_ms = s.gap_ms; legs = map (leg_without subscriber) s.legs; next = s.next }

abbrev pub gaps_ticked : GapState → GapState
gaps_ticked s = record { gap_ms = s.gap_ms; legs = s.legs; next = Some 0 }

-- who isn't there comes: what waits of it is forgotten
abbrev pub gaps_as_comes : Asking → List LegGap → List LegGap
gaps_as_comes a legs =
    if is_there a.room a.endpoint a.moment then legs else map (leg_without a.endpoint) legs

-- An endpoint is there, and asks for this, of which that is heard at once.
pub record HearsPaced (s t : GapState) (a : Asking) (asked passed : List Ask) : Type 0 where
  pub left : passed ≡ asks_passed s.gap_ms a (gaps_as_comes a s.legs) asked
  pub legs : t.legs ≡ gaps_after s.gap_ms a (gaps_as_comes a s.legs) asked
  pub gap : t.gap_ms ≡ s.gap_ms
  pub next : t.next ≡ s.next

-- ---- what waits is heard

-- the gap, who is sent what, who is there, and the moment
pub record GapTerms : Type 0 where
  pub gap_ms : ℕ
  pub table : LinkTable
  pub room : RoomState
  pub moment : ℕ

abbrev pub look_of : Look → GapTerms
look_of l = record {
  gap_ms = l.gap_ms;
  table = l.view.links.now;
  room = l.view.room.now;
  moment = l.moment;
}

-- what waits on this leg, if its gap is over and its subscriber is there
abbrev pub due_word : GapTerms → LegGap → Option ℕ
due_word t g =
    if is_open t.gap_ms t.moment g && is_there t.room g.subscriber t.moment then g.waiting else None

abbrev pub said_on : LinkTable → ℕ → Option ℕ → Option Again
said_on table number None = None
said_on table number (Some word) = asked_on table number word

-- the same as its subscriber asks for it, if legs are looked at from this one on
abbrev pub due_from : GapTerms → ℕ → ℕ → LegGap → Option Again
due_from t from number g =
    if nat_lt number from then None else said_on t.table number (due_word t g)

-- of legs of which the first has number n the first from this one on on which something is due, and what is asked for
abbrev pub first_due : GapTerms → ℕ → ℕ → List LegGap → Option (ℕ × Again)
first_due t from n [] = None
first_due t from n (g ∷ legs) = or_next n (due_from t from n g) (first_due t from (n + 1) legs)

abbrev pub due_of : Option ℕ → GapTerms → List LegGap → Option (ℕ × Again)
due_of None t legs = None
due_of (Some from) t legs = first_due t from 0 legs

-- the first of the legs that weren't looked at since the last tick
abbrev pub due_in : GapState → RoomView → ℕ → Option (ℕ × Again)
due_in s view moment = due_of s.next (record {
  gap_ms = s.gap_ms;
  table = view.links.now;
  room = view.room.now;
  moment = moment;
}) s.legs

abbrev pub said_in : Option (ℕ × Again) → Option Again
said_in None = None
said_in (Some due) = Some due.1

abbrev pub set_heard : List LegGap → ℕ → ℕ → Option LegGap → List LegGap
set_heard legs place moment None = legs
set_heard legs place moment (Some g) = slice_set legs place (heard_at moment g)

-- it was heard, and the legs after it are looked at next; if there was none all were looked at
abbrev pub after_look : GapState → ℕ → Option (ℕ × Again) → GapState
after_look s moment None = record { gap_ms = s.gap_ms; legs = s.legs; next = None }
after_look s moment (Some due) = record {
  gap_ms = s.gap_ms;
  legs = set_heard s.legs due.0 moment (slice_get s.legs due.0);
  next = Some (due.0 + 1);
}

-- ---- over all that happened to a leg, the latest first

-- its subscriber asks at this moment for this; it is looked at at this moment, and its subscriber is there; or its subscriber leaves
pub data GapHappening : Type 0 where
  asks : ℕ → ℕ → GapHappening
  looked_at : ℕ → GapHappening
  leaves : GapHappening

abbrev pub gap_looked : ℕ → ℕ → LegGap → Option ℕ → LegGap
gap_looked gap moment g None = g
gap_looked gap moment g (Some word) = if is_open gap moment g then heard_at moment g else g

abbrev pub gap_with : ℕ → LegGap → GapHappening → LegGap
gap_with gap g (asks moment word) = gap_asked gap moment word g
gap_with gap g (looked_at moment) = gap_looked gap moment g g.waiting
gap_with gap g leaves = record g { waiting = None }

abbrev pub leg_after : ℕ → LegSettings → List GapHappening → LegGap
leg_after gap leg [] = unheard leg
leg_after gap leg (h ∷ earlier) = gap_with gap (leg_after gap leg earlier) h

abbrev pub heard_if : Bool → ℕ → ℕ → List (ℕ × ℕ) → List (ℕ × ℕ)
heard_if is_heard moment word heard = if is_heard then (moment, word) ∷ heard else heard

abbrev pub heard_waiting : Bool → ℕ → Option ℕ → List (ℕ × ℕ) → List (ℕ × ℕ)
heard_waiting is_open moment None heard = heard
heard_waiting is_open moment (Some word) heard = heard_if is_open moment word heard

-- what is heard of it by then, and when, the latest first
abbrev pub words_heard : ℕ → LegSettings → List GapHappening → List (ℕ × ℕ)
words_heard gap leg [] = []
words_heard gap leg (asks moment word ∷ earlier) =
    heard_if (is_open gap moment (leg_after gap leg earlier)) moment word (words_heard gap leg earlier)
words_heard gap leg (looked_at moment ∷ earlier) =
    heard_waiting (is_open gap moment (leg_after gap leg earlier)) moment (leg_after gap leg earlier).waiting
    (words_heard gap leg earlier)
words_heard gap leg (leaves ∷ earlier) = words_heard gap leg earlier

-- what its subscriber asked for last, since it left last
abbrev pub word_asked_last : List GapHappening → Option ℕ
word_asked_last [] = None
word_asked_last (asks moment word ∷ earlier) = Some word
word_asked_last (looked_at moment ∷ earlier) = word_asked_last earlier
word_asked_last (leaves ∷ earlier) = None

abbrev pub last_word : List (ℕ × ℕ) → Option ℕ
last_word [] = None
last_word (heard ∷ earlier) = Some heard.1

abbrev pub last_moment : List (ℕ × ℕ) → Option ℕ
last_moment [] = None
last_moment (heard ∷ earlier) = Some heard.0

-- What was asked for last waits; or nothing waits, and it is what was heard last.
pub record IsNotLost (gap : ℕ) (leg : LegSettings) (happenings : List GapHappening) (word : ℕ) : Type 0 where
  pub kept : ((leg_after gap leg happenings).waiting ≡ Some word)
      ⊎ (((leg_after gap leg happenings).waiting ≡ None)
      × (last_word (words_heard gap leg happenings) ≡ Some word))

-- Once the leg is looked at at this moment, what was asked for last is what was heard last.
pub record IsHeardInTheEnd (gap : ℕ) (leg : LegSettings) (moment : ℕ) (earlier : List GapHappening) (word : ℕ) : Type 0 where
  pub heard : last_word (words_heard gap leg (looked_at moment ∷ earlier)) ≡ Some word

-- each was heard a gap after the one before it, at least
abbrev pub AreGapsApart : ℕ → List (ℕ × ℕ) → Type 0
AreGapsApart gap [] = ⊤
AreGapsApart gap (heard ∷ earlier) =
    (is_past gap heard.0 (last_moment earlier) ≡ true) × AreGapsApart gap earlier
