-- What is heard once more as a publisher comes (RFC 5104, section 4.2.1).
use Rattle.std.specs.Prelude.{◌≡◌, ◌==◌, ◌&&◌, ◌||◌, ℕ, ◌+◌, ◌-◌, nat_lt, Bool, true, false, List, [], ◌∷◌, Option, None, Some, slice_get, if◌then◌else◌}
use Rattle.tmmbr_tuple.specs.declared.ssrc.Ssrc.{Ssrc}
use Rattle.members.specs.Room.{RoomState}
use Rattle.settings.specs.Links.{LinkTable}
use Rattle.settings.specs.declared.settings.LegSettings.{LegSettings}
use Rattle.policy.specs.Presence.{is_there}
use Rattle.policy.specs.declared.again.Again.{Again}
use Rattle.policy.specs.declared.again.Holdings.{Holdings}
use Rattle.policy.specs.declared.requests.HeldRequest.{HeldRequest}
use Rattle.policy.specs.declared.requests.LegRequest.{LegRequest}

-- what is held for each leg, when each endpoint spoke last, who is sent what, who is there, after how long a request is given up, after how long
-- a silence an endpoint is gone, and the moment
pub record HoldTerms : Type 0 where
  pub requests : List LegRequest
  pub heard : List (Option ℕ)
  pub table : LinkTable
  pub room : RoomState
  pub request_ms : ℕ
  pub timeout_ms : ℕ
  pub moment : ℕ

abbrev pub terms : Holdings → HoldTerms
terms h = record {
  requests = h.requests.now;
  heard = h.heard.now;
  table = h.view.links.now;
  room = h.view.room.now;
  request_ms = h.request_ms;
  timeout_ms = h.timeout_ms;
  moment = h.moment;
}

-- it isn't given up for its age
abbrev pub is_young : HoldTerms → HeldRequest → Bool
is_young t request = (t.request_ms == 0) || nat_lt (t.moment - request.moment) t.request_ms

-- an endpoint spoke last less than so many milliseconds before this moment
abbrev pub is_within : ℕ → ℕ → Option (Option ℕ) → Bool
is_within within_ms moment None = false
is_within within_ms moment (Some None) = false
is_within within_ms moment (Some (Some heard)) = nat_lt (moment - heard) within_ms

-- it is there, and not only since something was heard in its name: it spoke within the timeout itself (RFC 3550, section 6.3.5)
abbrev pub is_live : HoldTerms → ℕ → Bool
is_live t endpoint =
    is_there t.room endpoint t.moment && is_within t.timeout_ms t.moment (slice_get t.heard endpoint)

abbrev pub held_of : HoldTerms → ℕ → Option HeldRequest → Option HeldRequest
held_of t subscriber None = None
held_of t subscriber (Some request) =
    if is_young t request && is_live t subscriber then Some request else None

abbrev pub held_in : HoldTerms → LegRequest → Option HeldRequest
held_in t place = held_of t place.subscriber place.request

abbrev pub held_at : HoldTerms → Option LegRequest → Option HeldRequest
held_at t None = None
held_at t (Some place) = held_in t place

-- what is held for a leg whose subscriber is there and spoke within the timeout, if it isn't too old (RFC 5104, section 4.2.1)
abbrev pub still_held : HoldTerms → ℕ → Option HeldRequest
still_held t leg = held_at t (slice_get t.requests leg)

abbrev pub asked_by_source : LegSettings → ℕ → Option Ssrc → Option Again
asked_by_source leg word None = None
asked_by_source leg word (Some own) = Some (record {
  endpoint = leg.subscriber;
  speaker = own;
  media = leg.out_ssrc;
  word = word;
})

abbrev pub asked_by_leg : LinkTable → ℕ → Option LegSettings → Option Again
asked_by_leg table word None = None
asked_by_leg table word (Some leg) =
    asked_by_source leg word (slice_get table.endpoints leg.subscriber)

-- the subscriber of the leg with this number asks, of what it is sent on it, for this word
abbrev pub asked_on : LinkTable → ℕ → ℕ → Option Again
asked_on table number word = asked_by_leg table word (slice_get table.legs number)

abbrev pub asked_for : HoldTerms → ℕ → Option HeldRequest → Option Again
asked_for t number None = None
asked_for t number (Some request) = asked_on t.table number request.word

-- the same for the word that is held for it
abbrev pub asked_again : HoldTerms → ℕ → Option Again
asked_again t number = asked_for t number (still_held t number)

-- the same, if the leg's place is looked at from this one on
abbrev pub again_from : HoldTerms → ℕ → ℕ → ℕ → Option Again
again_from t from place leg = if nat_lt place from then None else asked_again t leg

abbrev pub or_next : ℕ → Option Again → Option (ℕ × Again) → Option (ℕ × Again)
or_next place None next = next
or_next place (Some again) next = Some (place, again)

-- of legs of which the first has place n the first from this place on for which a request is held: its place, and what is
-- asked for (RFC 5104, section 4.2.1)
abbrev pub next_again : HoldTerms → ℕ → ℕ → List ℕ → Option (ℕ × Again)
next_again t from n [] = None
next_again t from n (leg ∷ legs) = or_next n (again_from t from n leg) (next_again t from (n + 1) legs)

-- ---- nobody is kept by what is heard in its name

-- It is the request that is held for some leg, and whose it is is live.
pub record IsOfTheLive (t : HoldTerms) (again : Again) : Type 0 where
  pub leg : ℕ
  pub place : LegRequest
  pub request : HeldRequest
  pub held : slice_get t.requests leg ≡ Some place
  pub requested : place.request ≡ Some request
  pub asked : asked_on t.table leg request.word ≡ Some again
  pub live : is_live t place.subscriber ≡ true
