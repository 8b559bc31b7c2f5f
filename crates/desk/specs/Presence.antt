-- Who is present at a desk, with which stay, and what they ask for.
use Rattle.std.specs.Prelude.{◌==◌, ℕ, ◌+◌, ◌≤◌, nat_lt, nat_le, not, Bool, ◌&&◌, List, length, map, All, Option, None, Some, option_map, if◌then◌else◌}
use Rattle.std.specs.Option.{option_map_or}
use Rattle.std.specs.List.{filter_map}
use Rattle.tmmbr_tuple.specs.declared.ssrc.Ssrc.{Ssrc}
use Rattle.rate_cert.specs.declared.request.Request.{Request}
use Rattle.rate_cert.specs.Owners.{OwnersRise, value_for, with_row, without_row, IsOwnerAt, IsOwnerGap}
use Rattle.desk.specs.declared.presence.Asked.{Asked}
use Rattle.desk.specs.declared.presence.Present.{Present}
use Rattle.desk.specs.declared.presence.TheConstants.{PRESENT_LIMIT}
use Rattle.desk.specs.declared.call.Call.{Call}
use Rattle.desk.specs.declared.call.Call.TheVariants.{Stay, Time}
use Rattle.desk.specs.declared.call.Change.{Change}
use Rattle.desk.specs.declared.call.Change.TheVariants.{Arrive, Request as Ask, Depart}
use Rattle.desk.specs.declared.call.Signal.{Signal}
use Rattle.desk.specs.declared.call.Signal.TheVariants.{Pli, Tick, Expire}
use Rattle.desk.specs.declared.call.Answer.{Answer}
use Rattle.desk.specs.declared.call.Answer.TheVariants.{NotPresent, AlreadyPresent, Full}

-- owners rise, so none is present twice
abbrev pub HasRisingOwners : List Present → Type 0
HasRisingOwners present = OwnersRise (λ p. p.owner.0) present

-- stays are numbered from 1
abbrev pub HasStays : List Present → Type 0
HasStays present = All (λ p. 1 ≤ p.stay) present

-- what is known of the owner, if it is present
abbrev pub presence_of : List Present → ℕ → Option Present
presence_of present owner = value_for (λ p. p.owner.0) (λ p. p) present owner

-- the stay with which the owner is present, 0 if it isn't
abbrev pub stay_in : List Present → ℕ → ℕ
stay_in present owner = option_map_or (λ (p : Present). p.stay) (presence_of present owner) 0

-- what the owner asks for, if it is present
abbrev pub asked_in : List Present → ℕ → Option Asked
asked_in present owner = option_map_or (λ (p : Present). p.asked) (presence_of present owner) None

-- by rising owner, with this in the place of what was known of the owner
abbrev pub with_presence : List Present → Present → List Present
with_presence present new = with_row (λ p. p.owner.0) present new

abbrev pub without_owner : List Present → ℕ → List Present
without_owner present owner = without_row (λ p. p.owner.0) present owner

-- the live requests, by rising owner
abbrev pub request_of : Present → Option Request
request_of p = option_map (λ (a : Asked). record { owner = p.owner; tuple = a.tuple }) p.asked

-- what those present ask for, by rising owner
abbrev pub live_requests : List Present → List Request
live_requests present = filter_map request_of present

-- ---- age

-- What was asked at its stamp is too old now. If the limit is 0 nothing ever is.
abbrev pub is_old : ℕ → ℕ → ℕ → Bool
is_old request_ms now stamp = nat_lt 0 request_ms && nat_le (stamp + request_ms) now

abbrev pub unless_old : ℕ → ℕ → Option Asked → Option Asked
unless_old request_ms now None = None
unless_old request_ms now (Some asked) =
    if is_old request_ms now asked.stamp then None else Some asked

-- the owner stays, and asks for nothing any more if its request is too old
abbrev pub without_old : ℕ → ℕ → Present → Present
without_old request_ms now p =
    record { owner = p.owner; stay = p.stay; asked = unless_old request_ms now p.asked }

-- ---- what a call makes of it

-- an arrive begins a stay without a request, a request is the last one of its stay, a depart ends a stay
abbrev pub present_changed : ℕ → List Present → Ssrc → ℕ → Change → List Present
present_changed now present owner stay Arrive =
    with_presence present (record { owner = owner; stay = stay; asked = None })
present_changed now present owner stay (Ask tuple) =
    with_presence present
    (record {
      owner = owner;
      stay = stay;
      asked = Some (record { tuple = tuple; stamp = now });
    })
present_changed now present owner stay Depart = without_owner present owner.0

-- requests age
abbrev pub present_signalled : ℕ → ℕ → List Present → Signal → List Present
present_signalled request_ms now present Pli = present
present_signalled request_ms now present Tick = present
present_signalled request_ms now present Expire = map (without_old request_ms now) present

-- who is present once the call was done, the greatest moment so far being `now`
abbrev pub present_by : ℕ → ℕ → List Present → Call → List Present
present_by request_ms now present (Stay owner stay change) =
    present_changed now present owner stay change
present_by request_ms now present (Time moment signal) =
    present_signalled request_ms now present signal

-- ---- refusals

-- the owner has to be present with the stay that the call names
abbrev pub unless_present_with : List Present → ℕ → ℕ → Option Answer
unless_present_with present owner stay =
    if stay_in present owner == stay then None else Some (NotPresent (stay_in present owner))

-- who arrives is absent yet, and there is room
abbrev pub unless_absent_with_room : List Present → ℕ → Option Answer
unless_absent_with_room present owner =
    if not (stay_in present owner == 0) then Some (AlreadyPresent (stay_in present owner))
    else if nat_le PRESENT_LIMIT (length present) then Some Full
    else None

abbrev pub refusal_in : List Present → ℕ → ℕ → Change → Option Answer
refusal_in present owner stay Arrive = unless_absent_with_room present owner
refusal_in present owner stay (Ask tuple) = unless_present_with present owner stay
refusal_in present owner stay Depart = unless_present_with present owner stay

-- why a call isn't done, the refusal of least number
abbrev pub refusal_of : List Present → Call → Option Answer
refusal_of present (Stay owner stay change) = refusal_in present owner.0 stay change
refusal_of present (Time moment signal) = None

-- ---- places

-- the owner is at this place
abbrev pub IsOwnerPlace : List Present → ℕ → ℕ → Type 0
IsOwnerPlace present owner place = IsOwnerAt (λ p. p.owner.0) present owner place

-- the owner would go to this place: lesser owners stand before it, and greater ones from it on
abbrev pub IsGapFor : List Present → ℕ → ℕ → Type 0
IsGapFor present owner place = IsOwnerGap (λ p. p.owner.0) present owner place
