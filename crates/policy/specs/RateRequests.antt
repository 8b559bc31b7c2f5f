-- What becomes of requests for a greatest rate before the machine takes them in, by the rules of a unit (RFC 5104, section 4.2.1).
use Rattle.std.specs.Prelude.{◌≡◌, ◌≤◌, ◌||◌, ℕ, Bool, false, List, Option, None, Some, is_some, option_map}
use Rattle.std.specs.List.{list_any}
use Rattle.datagram.specs.declared.reading.Ask.{Ask}
use Rattle.datagram.specs.declared.reading.Reading.{Reading}
use Rattle.members.specs.declared.view.RoomView.{RoomView}
use Rattle.settings.specs.Settings.{Configuration}
use Rattle.policy.specs.Asking.{Asking}
use Rattle.policy.specs.HeldRequests.{HearsAgain, HearsSignal, HoldsNothing, Ticks as TicksHeld, asks_left, hold_terms}
use Rattle.policy.specs.JoinedPublishers.{is_due as is_due_of}
use Rattle.policy.specs.RequestGaps.{GapState, HearsPaced, after_look, due_in, gaps_ticked, gaps_without, new_gaps, said_in}
use Rattle.policy.specs.declared.again.Again.{Again}
use Rattle.policy.specs.declared.held_requests.HeldRequests.{HeldRequests}
use Rattle.policy.specs.declared.rate_requests.RateRequests.{RateRequests}
use Rattle.policy.specs.declared.rules.Rules.{Rules}
use Rattle.policy.specs.declared.presence_signal.PresenceSignal.{PresenceSignal}
use Rattle.policy.specs.declared.presence_signal.PresenceSignal.TheVariants.{Nothing, Speaks, Leaves}

abbrev pub IfHeld : Option HeldRequests → (HeldRequests → Type 0) → Type 0
IfHeld None P = ⊥
IfHeld (Some h) P = P h

-- Nothing was asked for by these rules in a unit of these settings: requests are held if they are repeated, and there is a gap if one is wanted.
pub record BeginsBy (rules : Rules) (c : Configuration) (r : RateRequests) : Type 0 where
  pub unheld : rules.repeat_ms ≡ 0 → r.holding ≡ None
  pub held : 1 ≤ rules.repeat_ms → IfHeld r.holding (HoldsNothing c)
  pub unpaced : rules.request_gap_ms ≡ 0 → r.gaps ≡ None
  pub paced : 1 ≤ rules.request_gap_ms → r.gaps ≡ Some (new_gaps c rules.request_gap_ms)

-- ---- what is heard

-- it is held, if requests are
abbrev pub HoldsIf : Option HeldRequests → Option HeldRequests → PresenceSignal → Asking → List Ask → Type 0
HoldsIf None after word a asks = after ≡ None
HoldsIf (Some h) None word a asks = ⊥
HoldsIf (Some h) (Some k) word a asks = HearsSignal word h k a asks

-- and what can't be asked for yet is left out
abbrev pub left_held : Option HeldRequests → PresenceSignal → Asking → List Ask → List Ask
left_held None word a asks = asks
left_held (Some h) word a asks = asks_left word a asks

-- by what is said of who sent a datagram: of who is there what isn't heard at once is left out
abbrev pub PacesWord : PresenceSignal → GapState → GapState → Asking → List Ask → List Ask → Type 0
PacesWord Nothing s t a asks left = (t ≡ s) × (left ≡ asks)
PacesWord Leaves s t a asks left = (t ≡ gaps_without a.endpoint s) × (left ≡ asks)
PacesWord (Speaks notifies) s t a asks left = HearsPaced s t a asks left

abbrev pub PacesIf : Option GapState → Option GapState → PresenceSignal → Asking → List Ask → List Ask → Type 0
PacesIf None after word a asks left = (after ≡ None) × (left ≡ asks)
PacesIf (Some s) None word a asks left = ⊥
PacesIf (Some s) (Some t) word a asks left = PacesWord word s t a asks left

-- This is heard of who sent a datagram, with what it asks for, and so much of that is left.
pub record Hears (r q : RateRequests) (word : PresenceSignal) (a : Asking) (old new : Reading) : Type 0 where
  pub held : HoldsIf r.holding q.holding word a old.asks.items
  pub paced : PacesIf r.gaps q.gaps word a (left_held r.holding word a old.asks.items) new.asks.items
  pub what : new.what ≡ old.what
  pub unchanged : (new.clocked ≡ old.clocked) × (new.beyond ≡ old.beyond)

-- ---- what is heard that was asked for before

abbrev pub TicksIf : Option HeldRequests → Option HeldRequests → Type 0
TicksIf None after = after ≡ None
TicksIf (Some h) None = ⊥
TicksIf (Some h) (Some k) = TicksHeld h k

-- A tick was made.
pub record Ticks (r q : RateRequests) : Type 0 where
  pub held : TicksIf r.holding q.holding
  pub paced : q.gaps ≡ option_map gaps_ticked r.gaps

-- a publisher came for whose legs what is held is heard again
abbrev pub is_held : Option HeldRequests → Bool
is_held None = false
is_held (Some h) = list_any is_due_of h.joined_publishers

-- a leg wasn't looked at since the last tick
abbrev pub is_paced : Option GapState → Bool
is_paced None = false
is_paced (Some s) = is_some s.next

abbrev pub is_due : RateRequests → Bool
is_due r = is_held r.holding || is_paced r.gaps

abbrev pub HearsHeld : Option HeldRequests → Option HeldRequests → RoomView → ℕ → Option Again → Type 0
HearsHeld None after view moment again = (after ≡ None) × (again ≡ None)
HearsHeld (Some h) None view moment again = ⊥
HearsHeld (Some h) (Some k) view moment again =
    HearsAgain h k (hold_terms h view moment) again

abbrev pub HearsDue : Option GapState → Option GapState → RoomView → ℕ → Option Again → Type 0
HearsDue None after view moment again = (after ≡ None) × (again ≡ None)
HearsDue (Some s) None view moment again = ⊥
HearsDue (Some s) (Some t) view moment again =
    (again ≡ said_in (due_in s view moment)) × (t ≡ after_look s moment (due_in s view moment))

-- what waited for a gap, unless something that is held is heard
abbrev pub HearsElse : Option Again → Option GapState → Option GapState → RoomView → ℕ → Option Again → Type 0
HearsElse None before after view moment again = HearsDue before after view moment again
HearsElse (Some held) before after view moment again =
    (again ≡ Some held) × (after ≡ before)

-- What is heard now that was asked for before, if anything is.
pub record HearsNext (r q : RateRequests) (view : RoomView) (moment : ℕ) (again : Option Again) : Type 0 where
  pub held : Option Again
  pub hears : HearsHeld r.holding q.holding view moment held
  pub waits : HearsElse held r.gaps q.gaps view moment again
