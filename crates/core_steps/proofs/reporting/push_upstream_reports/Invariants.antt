use Rattle.std.proofs.Common.{◌≡◌, ◌+◌, ◌≤◌, vec_len}
use Rattle.std.specs.Prelude.{vec_capacity}
use Rattle.core_steps.specs.FollowUps.{AddsTasks}
use Rattle.core_steps.specs.Hearing.{upstream_reports}
use Rattle.core_steps.specs.Machine.{setup_of}
use Rattle.core_steps.specs.Rounds.{comes_between}
use Rattle.core_steps.proofs.reporting.push_upstream_reports.Given as goal

abbrev pub invariant-loop-endpoint : goal.invariant-loop-endpoint
invariant-loop-endpoint l =
    record {
      items : AddsTasks l.initial.follow_ups.items l.follow_ups.items
          (λ bytes. upstream_reports l.room (comes_between (setup_of l.setup) l.slots.done l.slots.come) l.endpoint);
      len : vec_len l.follow_ups ≤ vec_len l.initial.follow_ups + l.endpoint;
      capacity : vec_capacity l.follow_ups ≡ vec_capacity l.initial.follow_ups;
    }
