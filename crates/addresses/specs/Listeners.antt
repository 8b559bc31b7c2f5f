-- The endpoints that only listen, and when reports are made in their name.
use Rattle.std.specs.Prelude.{◌&&◌, ℕ, ◌+◌, nat_lt, nat_le, min, Bool, true, false, List, [], ◌∷◌, map, length, slice_set, slice_index_or, Option, None, Some, option_map, if◌then◌else◌}
use Rattle.addresses.specs.declared.listeners.Standing.{Standing}
use Rattle.addresses.specs.declared.listeners.Standing.TheVariants.{Speaks, Listens, Left}

-- what is known of each endpoint by its number; how far rounds of reports are apart, and from which moment on the next one begins,
-- in milliseconds; in a round the least number whose turn it wasn't
pub record ListenersState : Type 0 where
  pub standings : List Standing
  pub every_ms : ℕ
  pub due_ms : ℕ
  pub next : Option ℕ

abbrev pub standing_at_first : Bool → Standing
standing_at_first only_listens = if only_listens then Listens else Speaks

-- a round is due at once
abbrev pub new_listeners : List Bool → ℕ → ListenersState
new_listeners receive_only every_ms = record {
  standings = map standing_at_first receive_only;
  every_ms = every_ms;
  due_ms = 0;
  next = None;
}

-- reports are made in its name
abbrev pub listens : Standing → Bool
listens Speaks = false
listens Listens = true
listens Left = false

-- who only listens is present but from a goodbye until it is heard again
abbrev pub standing_after : Standing → Bool → Standing
standing_after Speaks is_goodbye = Speaks
standing_after Listens is_goodbye = if is_goodbye then Left else Listens
standing_after Left is_goodbye = if is_goodbye then Left else Listens

-- what is known of who only listens once this endpoint was heard, and said BYE or didn't
abbrev pub after_hearing : ListenersState → ℕ → Bool → ListenersState
after_hearing s endpoint is_goodbye = record s {
  standings =
      if nat_lt endpoint (length s.standings)
      then slice_set s.standings endpoint
      (standing_after (slice_index_or s.standings endpoint Speaks) is_goodbye)
      else s.standings;
}

-- the least number from this one on in whose name reports are made, of endpoints of which the first has number n
abbrev pub next_listener : ℕ → ℕ → List Standing → Option ℕ
next_listener from n [] = None
next_listener from n (standing ∷ standings) =
    if nat_le from n && listens standing then Some n else next_listener from (n + 1) standings

-- where the call at this moment looks from: a round goes on, or begins if it is due
abbrev pub turn_from : Option ℕ → Bool → Option ℕ
turn_from (Some from) is_early = Some from
turn_from None is_early = if is_early then None else Some 0

abbrev pub due_after : Option ℕ → Bool → ℕ → ℕ → ℕ
due_after (Some from) is_early due_ms next_ms = due_ms
due_after None is_early due_ms next_ms = if is_early then due_ms else next_ms

abbrev pub listener_from : Option ℕ → List Standing → Option ℕ
listener_from None standings = None
listener_from (Some from) standings = next_listener from 0 standings

-- in whose name a report is made at this moment, since it only listens
abbrev pub report_due : ListenersState → ℕ → Option ℕ
report_due s moment = listener_from (turn_from s.next (nat_lt moment s.due_ms)) s.standings

-- who is named had its turn, and a round without anybody left ends; the next is due so long after this one began
abbrev pub listeners_after : ListenersState → ℕ → ListenersState
listeners_after s moment = record {
  standings = s.standings;
  every_ms = s.every_ms;
  due_ms = due_after s.next (nat_lt moment s.due_ms) s.due_ms (min (moment + s.every_ms) 18446744073709551615);
  next = option_map (λ number. number + 1) (report_due s moment);
}
