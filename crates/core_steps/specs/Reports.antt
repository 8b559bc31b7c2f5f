-- What holds of the reports of every run: whose are due, and how often.
use Rattle.std.specs.Prelude.{◌≡◌, ◌==◌, ℕ, ◌+◌, ◌*◌, ◌-◌, ◌<◌, nat_le, nat_lt, Bool, true, false, ◌&&◌, List, [], ◌∷◌, ◌++◌, map, filter, if◌then◌else◌}
use Rattle.std.specs.List.{enumerate_from, flat_map}
use Rattle.events.specs.declared.job.Job.{Job}
use Rattle.events.specs.declared.job.Job.TheVariants.{Report}
use Rattle.members.specs.Calls.{Call as RoomCall, Tick, room_after}
use Rattle.members.specs.Room.{RoomState}
use Rattle.core_steps.specs.declared.rounds.Round.{Round}
use Rattle.core_steps.specs.Happening.{Happening, world_after}
use Rattle.core_steps.specs.Hearing.{is_report_due, leg_report, present_endpoints, reports, round_after, slots_by}
use Rattle.core_steps.specs.Rounds.{slot_of, slots_come}
use Rattle.core_steps.specs.Run.{worlds_after}
use Rattle.core_steps.specs.World.{Setup, Task, push, report, WorldState}

-- ---- of one happening

-- a moment was taken in
abbrev pub is_tick : List RoomCall → Bool
is_tick [] = false
is_tick (Tick moment ∷ calls) = true
is_tick (call ∷ calls) = false

abbrev pub is_report_job : Job → Bool
is_report_job (Report leg stay sr) = true
is_report_job job = false

-- a report to a publisher, or for the subscriber of a leg
abbrev pub is_report : Task → Bool
is_report (report publisher) = true
is_report (push worker job) = is_report_job job
is_report task = false

-- Of the tasks that were made, the reports are those that are due where a moment was taken in; there are no others. Only then does
-- the round go on.
pub record MakesDueReports (w : WorldState) (h : Happening) : Type 0 where
  pub round : h.round
      ≡ (if is_tick h.calls then round_after w (room_after w.room h.calls) else w.round)
  pub reports : filter is_report h.made
      ≡ (if is_tick h.calls then reports w (room_after w.room h.calls) else [])

-- ---- of a run

-- how often the report of the endpoint or leg of this number was due
abbrev pub times_due : ℕ → WorldState → List Happening → ℕ
times_due n w [] = 0
times_due n w (h ∷ history) =
    (if is_tick h.calls && is_report_due w (world_after w h).room n then 1 else 0)
    + times_due n (world_after w h) history

-- how many rounds were over: all their slots had come
abbrev pub rounds_over : WorldState → List Happening → ℕ
rounds_over w [] = 0
rounds_over w (h ∷ history) =
    (if is_tick h.calls && (slots_by w (world_after w h).room == w.setup.report_slots) then 1 else 0)
    + rounds_over (world_after w h) history

-- the report of this number was due in the round that goes on
abbrev pub was_due : WorldState → ℕ → Bool
was_due w n = nat_lt (slot_of w.setup n) w.round.done

-- The report of each number was due once in each round that is over, and at most once in the one that goes on.
abbrev pub DueOnceARound : WorldState → List Happening → Type 0
DueOnceARound w history =
    (n : ℕ) → times_due n w history
    ≡ rounds_over w history + (if was_due (worlds_after w history) n then 1 else 0)

-- ---- of slots

-- The slots come one after the other at even distances: the one after k others once k + 1 of their distances are over, the last at the
-- end of the period.
abbrev pub ComesEvenly : Setup → Type 0
ComesEvenly s =
    (since k : ℕ) → k < s.report_slots
    → nat_lt k (slots_come s since) ≡ nat_le ((k + 1) * s.report_ms) (since * s.report_slots)

-- ---- one slot

-- all at once, if the period is over since they were made last
abbrev pub reports_at_once : WorldState → RoomState → List Task
reports_at_once w r =
    if nat_le w.setup.report_ms (r.moment - w.round.began)
    then map report (present_endpoints w.setup.table r)
    ++ flat_map (leg_report w.setup.table r) (enumerate_from 0 w.setup.table.legs)
    else []

abbrev pub round_at_once : WorldState → RoomState → Round
round_at_once w r = record {
  began = if nat_le w.setup.report_ms (r.moment - w.round.began) then r.moment else w.round.began;
  done = 0;
}

-- all reports are made at once
pub record ReportsAtOnce (w : WorldState) : Type 0 where
  pub reports : (r : RoomState) → reports w r ≡ reports_at_once w r
  pub round : (r : RoomState) → round_after w r ≡ round_at_once w r
