use Rattle.std.proofs.Common.{◌≡◌, ◌+◌, ◌≤◌, take, vec_len}
use Rattle.std.specs.Prelude.{vec_capacity}
use Rattle.std.specs.List.{enumerate_from, flat_map}
use Rattle.core_steps.specs.FollowUps.{AddsTasks}
use Rattle.core_steps.specs.Hearing.{leg_report_if}
use Rattle.core_steps.specs.Machine.{setup_of}
use Rattle.core_steps.specs.Rounds.{comes_between}
use Rattle.core_steps.proofs.reporting.push_leg_reports.Given as goal

abbrev pub invariant-loop-number : goal.invariant-loop-number
invariant-loop-number l =
    record {
      items : AddsTasks l.initial.follow_ups.items l.follow_ups.items
          (λ bytes. flat_map (leg_report_if l.setup.links l.room (comes_between (setup_of l.setup) l.slots.done l.slots.come))
          (enumerate_from 0 (take l.number l.legs)));
      len : vec_len l.follow_ups ≤ vec_len l.initial.follow_ups + l.number;
      capacity : vec_capacity l.follow_ups ≡ vec_capacity l.initial.follow_ups;
    }
