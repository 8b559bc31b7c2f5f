-- Publishers that came, and how far what is held for their legs was heard again.
use Rattle.std.specs.Prelude.{ℕ, ◌+◌, nat_eq, Bool, true, false, List, [], ◌∷◌, Option, None, Some, if◌then◌else◌}
use Rattle.policy.specs.declared.joined_publishers.JoinedPublisher.{JoinedPublisher}
use Rattle.policy.specs.declared.joined_publishers.JoinedPublisher.TheVariants.{Over, Waits, Due}

-- how a publisher comes: if requests grow too old it waits for a tick, which tells the desk of who came the moment
abbrev pub just_joined : ℕ → JoinedPublisher
just_joined request_ms = if nat_eq request_ms 0 then Due 0 else Waits

-- a publisher that waits is due once a tick was made
abbrev pub ticked_in : JoinedPublisher → JoinedPublisher
ticked_in Over = Over
ticked_in Waits = Due 0
ticked_in (Due from) = Due from

-- from which place on the legs of who is due are looked at
abbrev pub due_from : JoinedPublisher → Option ℕ
due_from Over = None
due_from Waits = None
due_from (Due from) = Some from

-- whether a publisher is due: what is held for its legs is heard again
abbrev pub is_due : JoinedPublisher → Bool
is_due Over = false
is_due Waits = false
is_due (Due from) = true

abbrev pub or_later : ℕ → Option ℕ → Option (ℕ × ℕ) → Option (ℕ × ℕ)
or_later number None later = later
or_later number (Some from) later = Some (number, from)

-- the first that is due, of publishers of which the first has number n, and from which place on its legs are looked at
abbrev pub first_due : ℕ → List JoinedPublisher → Option (ℕ × ℕ)
first_due n [] = None
first_due n (coming ∷ joined_publishers) = or_later n (due_from coming) (first_due (n + 1) joined_publishers)
