-- What a room holds, and what each call does.
use Rattle.std.specs.Prelude.{◌≡◌, IfOk, IfErr, OnOk, OnErr, ◌==◌, ℕ, ◌+◌, ◌<◌, nat_lt, nat_le, max, Bool, false, not, List, [], ◌∷◌, ◌++◌, length, map, slice_index_or, slice_set, ◌&&◌, None, Some, Result, Ok, Err, if◌then◌else◌}
use Rattle.tmmbr_tuple.specs.declared.ssrc.Ssrc.{Ssrc}
use Rattle.members.specs.declared.order.Order.{Order}
use Rattle.members.specs.declared.order.Order.TheVariants.{Route}
use Rattle.settings.specs.declared.fault.RoomFault.{RoomFault}
use Rattle.settings.specs.declared.fault.RoomFault.TheVariants.{UnknownEndpoint, WrongSsrc, UnknownLeg, StaysSpent, NoMemory}
use Rattle.members.specs.declared.presence.Endpoint.{Endpoint}
use Rattle.members.specs.declared.presence.TheConstants.{LAST_MOMENT}
use Rattle.members.specs.declared.stays.LegStay.{LegStay}
use Rattle.members.specs.declared.stays.TheConstants.{MAX_STAY}
use Rattle.settings.specs.declared.settings.LegSettings.{LegSettings}
use Rattle.settings.specs.Settings.{Configuration}
use Rattle.members.specs.Presence.{NobodyOverdue, is_present_at, source_at, with_heard}
use Rattle.members.specs.Stays.{Told, leave, leaving, coming_count, come}
use Rattle.members.specs.Reception.{Heard}
use Rattle.members.specs.Stream.{nothing_heard, heard_packet, heard_report, heard_block}

-- The timeout, the greatest moment handed in, and the next number of a stay or a turn. When each endpoint was heard
-- last; each leg's stay, turn and selection; and what was received of each endpoint since it last came.
pub record RoomState : Type 0 where
  pub timeout : ℕ
  pub moment : ℕ
  pub next : ℕ
  pub endpoints : List Endpoint
  pub legs : List LegStay
  pub receptions : List Heard

-- the orders of a call, and the room after it
pub record Step : Type 0 where
  pub orders : List Order
  pub room : RoomState

abbrev pub step_with : RoomState → ℕ → ℕ → Told → Step
step_with r moment next t = record {
  orders = t.orders;
  room = record {
    timeout = r.timeout;
    moment = moment;
    next = next;
    endpoints = t.endpoints;
    legs = t.legs;
    receptions = r.receptions;
  };
}

-- every present endpoint that is overdue leaves, by rising number
abbrev pub after_leaving : RoomState → ℕ → Told
after_leaving r moment = leaving r.timeout moment r.endpoints r.legs

-- a moment: every present endpoint that is overdue leaves
abbrev pub tick_step : RoomState → ℕ → Step
tick_step r handed =
    step_with r (max r.moment handed) r.next (after_leaving r (max r.moment handed))

abbrev pub after_bye : Told → ℕ → Told
after_bye t endpoint = if is_present_at t.endpoints endpoint then leave t endpoint else t

-- a BYE: all that are overdue leave, then this endpoint, if it is present; an unknown endpoint is refused
abbrev pub bye_step : RoomState → ℕ → ℕ → Result Step RoomFault
bye_step r handed endpoint =
    if nat_le (length r.endpoints) endpoint then Err UnknownEndpoint
    else Ok (step_with r (max r.moment handed) r.next
    (after_bye (after_leaving r (max r.moment handed)) endpoint))

-- a present endpoint is heard again
abbrev pub heard_again : Told → ℕ → ℕ → Told
heard_again t moment endpoint =
    record t { endpoints = with_heard t.endpoints endpoint (Some moment) }

-- nothing was received yet of the endpoint
abbrev pub anew : RoomState → ℕ → RoomState
anew r endpoint = record r { receptions = slice_set r.receptions endpoint nothing_heard }

-- an endpoint is heard: it was present, or it comes, and its reception begins anew
abbrev pub heard_step : RoomState → ℕ → ℕ → Told → Result Step RoomFault
heard_step r moment endpoint t =
    if is_present_at t.endpoints endpoint
    then Ok (step_with r moment r.next (heard_again t moment endpoint))
    else if nat_lt MAX_STAY (r.next + coming_count t.endpoints endpoint t.legs) then Err StaysSpent
    else Ok (step_with (anew r endpoint) moment (r.next + coming_count t.endpoints endpoint t.legs)
    (come t moment r.next endpoint))

-- a packet of an endpoint is heard, once all that are overdue left; an unknown endpoint, or another
-- source than its own, is refused
abbrev pub hear_step : RoomState → ℕ → ℕ → ℕ → Result Step RoomFault
hear_step r handed endpoint ssrc =
    if nat_le (length r.endpoints) endpoint then Err UnknownEndpoint
    else if not ((source_at r.endpoints endpoint).0 == ssrc) then Err WrongSsrc
    else heard_step r (max r.moment handed) endpoint (after_leaving r (max r.moment handed))

-- no leg
abbrev pub no_leg : LegStay
no_leg = record { subscriber = 0; publisher = 0; stay = 0; turn = 0; selected = false }

abbrev pub leg_at : List LegStay → ℕ → LegStay
leg_at legs number = slice_index_or legs number no_leg

abbrev pub is_selected : Bool → LegStay → Bool
is_selected on l = if on then l.selected else not l.selected

-- switching on takes a new number as turn, if a stay stands
abbrev pub takes_turn : Bool → LegStay → Bool
takes_turn on l = on && not (l.stay == 0)

abbrev pub switched_leg : Bool → ℕ → LegStay → LegStay
switched_leg on next l = record l { selected = on; turn = if takes_turn on l then next else l.turn }

-- the leg's row as it is now, if a stay stands
abbrev pub row_order : ℕ → LegStay → List Order
row_order number l = if l.stay == 0 then [] else Route number l.stay l.turn l.selected ∷ []

abbrev pub with_leg : Told → ℕ → LegStay → Told
with_leg t number l = record {
  endpoints = t.endpoints;
  legs = slice_set t.legs number l;
  orders = t.orders ++ row_order number l;
}

abbrev pub next_after : Bool → ℕ → LegStay → ℕ
next_after on next l = if takes_turn on l then next + 1 else next

-- another selection than the leg has is noted, and its row changes if a stay stands
abbrev pub selected_step : RoomState → ℕ → Told → ℕ → Bool → LegStay → Result Step RoomFault
selected_step r moment t number on l =
    if is_selected on l then Ok (step_with r moment r.next t)
    else if takes_turn on l && nat_le MAX_STAY r.next then Err StaysSpent
    else Ok (step_with r moment (next_after on r.next l)
    (with_leg t number (switched_leg on r.next l)))

-- a leg is switched on or off, once all that are overdue left; an unknown leg is refused
abbrev pub select_step : RoomState → ℕ → ℕ → Bool → Result Step RoomFault
select_step r handed number on =
    if nat_le (length r.legs) number then Err UnknownLeg
    else (let t = after_leaving r (max r.moment handed) in
    selected_step r (max r.moment handed) t number on (leg_at t.legs number))

-- the room is the step's, and its orders are appended
abbrev pub TakesStep : Step → List Order → RoomState → List Order → Type 0
TakesStep step orders new new_orders = (new ≡ step.room) × (new_orders ≡ orders ++ step.orders)

-- the room and the orders are as they were
abbrev pub ChangesNothing : RoomState → List Order → RoomState → List Order → Type 0
ChangesNothing old orders new new_orders = (new ≡ old) × (new_orders ≡ orders)

-- What a call answers and leaves. If its step is a fault it is refused with that, and else for want of memory alone.
-- Refused it changes nothing; else it takes its step.
pub record Answers (old : RoomState) (orders : List Order) (step : Result Step RoomFault)
    (result : Result (Unit {0}) RoomFault) (new : RoomState)
    (new_orders : List Order) : Type 0 where
  pub ok : IfOk step (λ s. OnOk result (TakesStep s orders new new_orders))
  pub refused : IfErr step (λ fault. result ≡ Err fault)
  pub no_memory : OnOk step (OnErr result (result ≡ Err NoMemory))
  pub unchanged : OnErr result (ChangesNothing old orders new new_orders)

-- handed this moment nobody is overdue, and the moment isn't the last of all
abbrev pub IsCalm : RoomState → ℕ → Type 0
IsCalm r handed =
    NobodyOverdue r.timeout (max r.moment handed) r.endpoints × (max r.moment handed < LAST_MOMENT)

-- ---- what is received

-- what was received of the endpoint in its present presence: nothing if it is absent (RFC 3550, section 6.4.1)
abbrev pub reception_at : RoomState → ℕ → Heard
reception_at r endpoint =
    if is_present_at r.endpoints endpoint then slice_index_or r.receptions endpoint nothing_heard
    else nothing_heard

-- the room with this as what was received of the endpoint, if it is present
abbrev pub with_reception : RoomState → ℕ → Heard → RoomState
with_reception r endpoint h = record r {
  receptions = if is_present_at r.endpoints endpoint then slice_set r.receptions endpoint h
      else r.receptions;
}

-- the room once a packet of the endpoint came at its moment (RFC 3550, section 6.4.1)
abbrev pub after_packet : RoomState → ℕ → ℕ → ℕ → RoomState
after_packet r endpoint seq timestamp =
    with_reception r endpoint (heard_packet (reception_at r endpoint) r.moment seq timestamp)

-- the room once a sender report of the endpoint came at its moment (RFC 3550, section 6.4.1)
abbrev pub after_report : RoomState → ℕ → ℕ → ℕ → RoomState
after_report r endpoint ntp rtp =
    with_reception r endpoint (heard_report (reception_at r endpoint) r.moment ntp rtp)

-- the room once a block about the endpoint was made (RFC 3550, section 6.4.1)
abbrev pub after_block : RoomState → ℕ → RoomState
after_block r endpoint = with_reception r endpoint (heard_block (reception_at r endpoint))

-- ---- a new room

abbrev pub absent : Ssrc → Endpoint
absent ssrc = record { ssrc = ssrc; heard = None }

abbrev pub idle_leg : LegSettings → LegStay
idle_leg l = record {
  subscriber = l.subscriber;
  publisher = l.publisher;
  stay = 0;
  turn = 0;
  selected = l.on;
}

abbrev pub new_room : Configuration → RoomState
new_room s = record {
  timeout = s.timeout_ms;
  moment = 0;
  next = 1;
  endpoints = map absent s.endpoints;
  legs = map idle_leg s.legs;
  receptions = map (λ _. nothing_heard) s.endpoints;
}
