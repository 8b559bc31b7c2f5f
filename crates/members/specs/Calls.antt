-- Calls of a room one after another, and what the whole list of them says of who is present and what was received.
use Rattle.std.specs.Prelude.{◌≡◌, ◌≢◌, ◌==◌, not, All, ◌&&◌, ℕ, ◌+◌, ◌≤◌, nat_lt, max, Bool, true, false, List, [], ◌∷◌, ◌++◌, flat_map, Option, None, Some, Result, Ok, Err, if◌then◌else◌}
use Rattle.std.specs.Option.{option_map_or}
use Rattle.members.specs.declared.order.Order.{Order}
use Rattle.members.specs.declared.order.Order.TheVariants.{Arrive, Depart, Route}
use Rattle.settings.specs.declared.fault.RoomFault.{RoomFault}
use Rattle.members.specs.declared.presence.Endpoint.{Endpoint}
use Rattle.members.specs.declared.stays.LegStay.{LegStay}
use Rattle.members.specs.Presence.{is_present_at}
use Rattle.settings.specs.Settings.{Configuration}
use Rattle.members.specs.Room.{RoomState, Step, new_room, leg_at, tick_step, bye_step, hear_step, select_step, after_packet, after_report, after_block}
use Rattle.members.specs.Reception.{ReceptionCall, Received, SenderReported, BlockMade}

pub data Call : Type 0 where
  Hear : ℕ → ℕ → ℕ → Call
  Bye : ℕ → ℕ → Call
  Tick : ℕ → Call
  Select : ℕ → ℕ → Bool → Call
  Receive : ℕ → ℕ → ℕ → Call
  Report : ℕ → ℕ → ℕ → Call
  MakeBlock : ℕ → Call

-- a call that is never refused, and gives no order
abbrev pub quietly : RoomState → Result Step RoomFault
quietly r = Ok (record { orders = []; room = r })

-- What a room does at a call. Those of presence name the moment first, then the endpoint with its source, or the leg with
-- its selection; those of a reception name the endpoint, then a packet's sequence number and timestamp, or a sender
-- report's NTP and RTP timestamps.
abbrev pub step_of : RoomState → Call → Result Step RoomFault
step_of r (Hear moment endpoint ssrc) = hear_step r moment endpoint ssrc
step_of r (Bye moment endpoint) = bye_step r moment endpoint
step_of r (Tick moment) = Ok (tick_step r moment)
step_of r (Select moment leg on) = select_step r moment leg on
step_of r (Receive endpoint seq timestamp) = quietly (after_packet r endpoint seq timestamp)
step_of r (Report endpoint ntp rtp) = quietly (after_report r endpoint ntp rtp)
step_of r (MakeBlock endpoint) = quietly (after_block r endpoint)

-- a refused call changes nothing, and tells nothing
abbrev pub room_of : RoomState → Result Step RoomFault → RoomState
room_of r (Ok step) = step.room
room_of r (Err fault) = r

abbrev pub orders_of : Result Step RoomFault → List Order
orders_of (Ok step) = step.orders
orders_of (Err fault) = []

abbrev pub if_accepted : Call → Result Step RoomFault → List Call
if_accepted c (Ok step) = c ∷ []
if_accepted c (Err fault) = []

abbrev pub room_after : RoomState → List Call → RoomState
room_after r [] = r
room_after r (c ∷ calls) = room_after (room_of r (step_of r c)) calls

abbrev pub orders_after : RoomState → List Call → List Order
orders_after r [] = []
orders_after r (c ∷ calls) = orders_of (step_of r c) ++ orders_after (room_of r (step_of r c)) calls

-- the calls that weren't refused
abbrev pub accepted_calls : RoomState → List Call → List Call
accepted_calls r [] = []
accepted_calls r (c ∷ calls) =
    if_accepted c (step_of r c) ++ accepted_calls (room_of r (step_of r c)) calls

-- ---- presence, by the whole list of accepted calls

-- the moment that a call is handed; 0 if it is handed none
abbrev pub moment_of : Call → ℕ
moment_of (Hear moment endpoint ssrc) = moment
moment_of (Bye moment endpoint) = moment
moment_of (Tick moment) = moment
moment_of (Select moment leg on) = moment
moment_of (Receive endpoint seq timestamp) = 0
moment_of (Report endpoint ntp rtp) = 0
moment_of (MakeBlock endpoint) = 0

-- the greatest moment handed in, from a first one on
abbrev pub greatest_moment : ℕ → List Call → ℕ
greatest_moment moment [] = moment
greatest_moment moment (c ∷ calls) = greatest_moment (max moment (moment_of c)) calls

-- a hear of the endpoint counts from its moment, until a goodbye of it
abbrev pub heard_by : ℕ → ℕ → Option ℕ → Call → Option ℕ
heard_by endpoint moment heard (Hear handed other ssrc) =
    if other == endpoint then Some moment else heard
heard_by endpoint moment heard (Bye handed other) = if other == endpoint then None else heard
heard_by endpoint moment heard (Tick handed) = heard
heard_by endpoint moment heard (Select handed leg on) = heard
heard_by endpoint moment heard (Receive other seq timestamp) = heard
heard_by endpoint moment heard (Report other ntp rtp) = heard
heard_by endpoint moment heard (MakeBlock other) = heard

-- the greatest moment up to the endpoint's last hear, if no goodbye of it came after
abbrev pub last_heard : ℕ → ℕ → Option ℕ → List Call → Option ℕ
last_heard endpoint moment heard [] = heard
last_heard endpoint moment heard (c ∷ calls) =
    let now = max moment (moment_of c) in
    last_heard endpoint now (heard_by endpoint now heard c) calls

-- that was less than the timeout ago
abbrev pub is_recent : ℕ → ℕ → Option ℕ → Bool
is_recent timeout moment heard = option_map_or (λ h. nat_lt moment (h + timeout)) heard false

-- The endpoint is present after these calls: it has a last hear, no goodbye of it came after, and the greatest moment is
-- less than the timeout past that of the hear.
abbrev pub is_present_after : ℕ → ℕ → List Call → Bool
is_present_after timeout endpoint calls =
    is_recent timeout (greatest_moment 0 calls) (last_heard endpoint 0 None calls)

-- ---- what was received, and how often an endpoint came, by the whole list of accepted calls

-- the endpoint comes by this call at this moment: it is heard, and no hear of it was recent
abbrev pub comes_by : ℕ → ℕ → ℕ → Option ℕ → Call → Bool
comes_by timeout endpoint moment heard (Hear handed other ssrc) =
    other == endpoint && not (is_recent timeout moment heard)
comes_by timeout endpoint moment heard (Bye handed other) = false
comes_by timeout endpoint moment heard (Tick handed) = false
comes_by timeout endpoint moment heard (Select handed leg on) = false
comes_by timeout endpoint moment heard (Receive other seq timestamp) = false
comes_by timeout endpoint moment heard (Report other ntp rtp) = false
comes_by timeout endpoint moment heard (MakeBlock other) = false

-- what a call at this moment says of what was received of the endpoint
abbrev pub reception_call : ℕ → ℕ → Call → List ReceptionCall
reception_call endpoint moment (Hear handed other ssrc) = []
reception_call endpoint moment (Bye handed other) = []
reception_call endpoint moment (Tick handed) = []
reception_call endpoint moment (Select handed leg on) = []
reception_call endpoint moment (Receive other seq timestamp) =
    if other == endpoint
    then Received (record { moment = moment; seq = seq; timestamp = timestamp }) ∷ [] else []
reception_call endpoint moment (Report other ntp rtp) =
    if other == endpoint then SenderReported (record { moment = moment; ntp = ntp; rtp = rtp }) ∷ []
    else []
reception_call endpoint moment (MakeBlock other) = if other == endpoint then BlockMade ∷ [] else []

-- these, and that of one more call, begun anew if the endpoint comes by it
abbrev pub received_by : ℕ → ℕ → ℕ → Option ℕ → List ReceptionCall → Call → List ReceptionCall
received_by timeout endpoint moment heard since c =
    if comes_by timeout endpoint moment heard c then []
    else since ++ reception_call endpoint moment c

-- the reception calls of the endpoint since it last came, each at the greatest moment handed in before it
abbrev pub received_since : ℕ → ℕ → ℕ → Option ℕ → List ReceptionCall → List Call
    → List ReceptionCall
received_since timeout endpoint moment heard since [] = since
received_since timeout endpoint moment heard since (c ∷ calls) =
    let now = max moment (moment_of c) in
    received_since timeout endpoint now (heard_by endpoint now heard c)
    (received_by timeout endpoint now heard since c) calls

-- the reception calls of the endpoint in its present presence: none if it is absent
abbrev pub received_in_presence : ℕ → ℕ → List Call → List ReceptionCall
received_in_presence timeout endpoint calls =
    if is_present_after timeout endpoint calls then received_since timeout endpoint 0 None [] calls
    else []

-- how often the endpoint comes
abbrev pub comings_from : ℕ → ℕ → ℕ → Option ℕ → List Call → ℕ
comings_from timeout endpoint moment heard [] = 0
comings_from timeout endpoint moment heard (c ∷ calls) =
    let now = max moment (moment_of c) in
    (if comes_by timeout endpoint now heard c then 1 else 0)
    + comings_from timeout endpoint now (heard_by endpoint now heard c) calls

-- how often the endpoint came by these calls
abbrev pub comings : ℕ → ℕ → List Call → ℕ
comings timeout endpoint calls = comings_from timeout endpoint 0 None calls

-- The endpoint is in one presence after the calls before and after all of them: it is present after both, and came no
-- more between.
pub record IsOnePresence (s : Configuration) (endpoint : ℕ) (before all : List Call) : Type 0 where
  pub was : is_present_after s.timeout_ms endpoint (accepted_calls (new_room s) before) ≡ true
  pub is : is_present_after s.timeout_ms endpoint (accepted_calls (new_room s) all) ≡ true
  pub same : comings s.timeout_ms endpoint (accepted_calls (new_room s) all)
      ≡ comings s.timeout_ms endpoint (accepted_calls (new_room s) before)

-- the stay of the leg of this number after these calls; 0 if none stands
abbrev pub stay_after : Configuration → List Call → ℕ → ℕ
stay_after s calls leg = (leg_at (room_after (new_room s) calls).legs leg).stay

-- ---- numbers of stays and turns

abbrev pub arrival_of : Order → List ℕ
arrival_of (Arrive leg stay) = stay ∷ []
arrival_of (Depart leg stay) = []
arrival_of (Route leg stay turn on) = []

-- the stays that began, in the order of the orders
abbrev pub arrivals : List Order → List ℕ
arrivals orders = flat_map arrival_of orders

-- A stay's number is drawn as it begins. A row that is on begins a turn: that of the stay's number if it is the first,
-- else one that is drawn for it.
abbrev pub drawn_of : Order → List ℕ
drawn_of (Arrive leg stay) = stay ∷ []
drawn_of (Depart leg stay) = []
drawn_of (Route leg stay turn on) = if on && not (turn == stay) then turn ∷ [] else []

-- the numbers drawn for stays and turns, in the order of the orders
abbrev pub drawn_numbers : List Order → List ℕ
drawn_numbers orders = flat_map drawn_of orders

-- the numbers from the first on, one after another, to below the last
abbrev pub RunsFrom : ℕ → List ℕ → ℕ → Type 0
RunsFrom first [] last = first ≡ last
RunsFrom first (x ∷ xs) last = (x ≡ first) × RunsFrom (first + 1) xs last

abbrev pub departure_of : Order → List ℕ
departure_of (Arrive leg stay) = []
departure_of (Depart leg stay) = stay ∷ []
departure_of (Route leg stay turn on) = []

-- the stays that ended, in the order of the orders
abbrev pub departures : List Order → List ℕ
departures orders = flat_map departure_of orders

-- numbers that rise, from the first on to below the last: none stands twice
abbrev pub RiseWithin : ℕ → List ℕ → ℕ → Type 0
RiseWithin first [] last = first ≤ last
RiseWithin first (x ∷ xs) last = (first ≤ x) × RiseWithin (x + 1) xs last

-- ---- stays

-- the leg's stay stands exactly while its subscriber and its publisher are both present
abbrev pub StandsByPresence : List Endpoint → LegStay → Type 0
StandsByPresence endpoints l = not (l.stay == 0) ≡ (is_present_at endpoints l.subscriber
    && is_present_at endpoints l.publisher)

-- no leg has this stay
abbrev pub StandsNowhere : List LegStay → ℕ → Type 0
StandsNowhere legs stay = All (λ l. l.stay ≢ stay) legs
