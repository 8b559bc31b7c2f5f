-- Reports go out in rounds, so that they don't come together: in each period every endpoint and every leg has its slot
-- (RFC 3550, section 6.2).
use Rattle.std.specs.Prelude.{◌==◌, ℕ, ◌*◌, ◌/◌, ◌%◌, nat_le, nat_lt, Bool, ◌&&◌, if◌then◌else◌}
use Rattle.core_steps.specs.declared.rounds.Round.{Round}
use Rattle.core_steps.specs.World.{Setup}

-- the slot of a round in which an endpoint or a leg of this number reports
abbrev pub slot_of : Setup → ℕ → ℕ
slot_of s n = n % s.report_slots

-- so many slots have come, so long after a round began: all once the period is over, and before that as many as are its part
abbrev pub slots_come : Setup → ℕ → ℕ
slots_come s since =
    if nat_le s.report_ms since then s.report_slots else since * s.report_slots / s.report_ms

-- The slot of this number comes after so many slots, and before so many.
abbrev pub comes_between : Setup → ℕ → ℕ → ℕ → Bool
comes_between s done come n = nat_le done (slot_of s n) && nat_lt (slot_of s n) come

-- the round once so many of its slots have come: the next one begins where all have
abbrev pub round_with : Setup → ℕ → Round → ℕ → Round
round_with s moment round come =
    if come == s.report_slots
    then record { began = moment; done = 0 }
    else record { began = round.began; done = come }
