-- Which stays end and begin as endpoints leave and come, and the orders that say so.
use Rattle.std.specs.Prelude.{◌≡◌, ◌==◌, ℕ, zero, suc, ◌+◌, Bool, false, not, ◌&&◌, ◌||◌, List, [], ◌∷◌, ◌++◌, map, length, count_by, flat_map, Option, None, Some, if◌then◌else◌}
use Rattle.std.specs.List.{enumerate_from}
use Rattle.members.specs.declared.order.Order.{Order}
use Rattle.members.specs.declared.order.Order.TheVariants.{Arrive, Depart, Route}
use Rattle.members.specs.declared.presence.Endpoint.{Endpoint}
use Rattle.members.specs.declared.stays.LegStay.{LegStay}
use Rattle.members.specs.Presence.{is_overdue_at, is_present_at, with_heard}
use Rattle.members.specs.declared.order.Row.{Row}

-- the endpoints and legs, and the orders so far
pub record Told : Type 0 where
  pub endpoints : List Endpoint
  pub legs : List LegStay
  pub orders : List Order

abbrev pub without_orders : List Endpoint → List LegStay → Told
without_orders endpoints legs = record { endpoints = endpoints; legs = legs; orders = [] }

-- the endpoint is the leg's subscriber or its publisher
abbrev pub is_of : ℕ → LegStay → Bool
is_of endpoint l = l.subscriber == endpoint || l.publisher == endpoint

-- ---- an endpoint leaves: the stays of its legs end

abbrev pub ending : ℕ → LegStay → List Order
ending number l = Route number 0 l.turn false ∷ Depart number l.stay ∷ []

abbrev pub ending_of : ℕ → ℕ × LegStay → List Order
ending_of endpoint p = if is_of endpoint p.1 && not (p.1.stay == 0) then ending p.0 p.1 else []

-- the orders, leg by leg
abbrev pub endings : ℕ → List LegStay → List Order
endings endpoint legs = flat_map (ending_of endpoint) (enumerate_from 0 legs)

abbrev pub leg_without : ℕ → LegStay → LegStay
leg_without endpoint l = if is_of endpoint l then record l { stay = 0 } else l

abbrev pub leave : Told → ℕ → Told
leave t endpoint = record {
  endpoints = with_heard t.endpoints endpoint None;
  legs = map (leg_without endpoint) t.legs;
  orders = t.orders ++ endings endpoint t.legs;
}

abbrev pub leave_if_overdue : ℕ → ℕ → ℕ → Told → Told
leave_if_overdue timeout moment endpoint t =
    if is_overdue_at timeout moment t.endpoints endpoint then leave t endpoint else t

-- those of the first endpoints that are overdue leave, one after another
abbrev pub after_overdue : ℕ → ℕ → Told → ℕ → Told
after_overdue timeout moment t zero = t
after_overdue timeout moment t (suc number) =
    leave_if_overdue timeout moment number (after_overdue timeout moment t number)

-- all that are overdue leave
unfoldable pub leaving : ℕ → ℕ → List Endpoint → List LegStay → Told
leaving timeout moment endpoints legs =
    after_overdue timeout moment (without_orders endpoints legs) (length endpoints)

-- ---- an endpoint comes: its legs to and from those present begin stays, each with the next number

abbrev pub begins_with : List Endpoint → ℕ → LegStay → Bool
begins_with endpoints endpoint l =
    (l.subscriber == endpoint && is_present_at endpoints l.publisher)
    || (l.publisher == endpoint && is_present_at endpoints l.subscriber)

-- the turn of a leg whose stay begins
abbrev pub turn_from : ℕ → LegStay → ℕ
turn_from stay l = if l.selected then stay else l.turn

abbrev pub beginning : ℕ → ℕ → LegStay → List Order
beginning number stay l = Arrive number stay ∷ Route number stay (turn_from stay l) l.selected ∷ []

-- the orders of the legs from this number on, whose stays are numbered from the next
abbrev pub beginnings : (LegStay → Bool) → ℕ → ℕ → List LegStay → List Order
beginnings begins next number [] = []
beginnings begins next number (l ∷ legs) =
    if begins l then beginning number next l ++ beginnings begins (next + 1) (number + 1) legs
    else beginnings begins next (number + 1) legs

abbrev pub started_legs : (LegStay → Bool) → ℕ → List LegStay → List LegStay
started_legs begins next [] = []
started_legs begins next (l ∷ legs) =
    if begins l then record l { stay = next; turn = turn_from next l }
    ∷ started_legs begins (next + 1) legs else l ∷ started_legs begins next legs

-- how many stays begin as the endpoint comes, the orders that say so, and the legs from then on
unfoldable pub coming_count : List Endpoint → ℕ → List LegStay → ℕ
coming_count endpoints endpoint legs = count_by (begins_with endpoints endpoint) legs

unfoldable pub coming_orders : List Endpoint → ℕ → ℕ → List LegStay → List Order
coming_orders endpoints endpoint next legs = beginnings (begins_with endpoints endpoint) next 0 legs

unfoldable pub coming_legs : List Endpoint → ℕ → ℕ → List LegStay → List LegStay
coming_legs endpoints endpoint next legs = started_legs (begins_with endpoints endpoint) next legs

abbrev pub come : Told → ℕ → ℕ → ℕ → Told
come t moment next endpoint = record {
  endpoints = with_heard t.endpoints endpoint (Some moment);
  legs = coming_legs t.endpoints endpoint next t.legs;
  orders = t.orders ++ coming_orders t.endpoints endpoint next t.legs;
}

-- orders in the making, with more after them; None once no memory was left for one
abbrev pub told_more : Option (List Order) → List Order → Option (List Order)
told_more None more = None
told_more (Some orders) more = Some (orders ++ more)

-- The draft holds the orders that it held and these after them, unless it is short.
pub record Tells (old : Option (List Order)) (more : List Order)
    (new : Option (List Order)) : Type 0 where
  pub ends : (orders : List Order) → new ≡ Some orders → told_more old more ≡ Some orders

-- nothing stands on the leg, and nothing is forwarded
abbrev pub opening_row : Row
opening_row = record { stay = 0; turn = 0; on = false }
