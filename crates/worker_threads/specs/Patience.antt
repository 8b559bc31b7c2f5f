-- How often the ingress looks in a second whether its workers are done.
use Rattle.std.specs.Prelude.{ℕ, ◌+◌, ◌-◌, Bool, ◌||◌, nat_lt, nat_le, if◌then◌else◌}
use Rattle.worker_threads.specs.declared.settling.Patience.{Patience}
use Rattle.worker_threads.specs.declared.settling.TheConstants.{LOOKS_A_SECOND}

-- the second that began then has passed; a moment before it is of another one, too
abbrev pub is_later : ℕ → ℕ → Bool
is_later since moment = nat_lt moment since || nat_le (since + 1000) moment

-- how often the ingress may still look in this second whether its workers are done: LOOKS_A_SECOND times in each
abbrev pub patience_at : Patience → ℕ → Patience
patience_at p moment =
    if is_later p.since moment then record { since = moment; left = LOOKS_A_SECOND } else p

-- once a look was taken off it, if one was left
abbrev pub patience_after : Patience → ℕ → Patience
patience_after p moment = record (patience_at p moment) { left = (patience_at p moment).left - 1 }
