use Rattle.std.proofs.Common.{◌≡◌, ◌+◌, ◌≤◌, vec_len}
use Rattle.std.specs.Prelude.{vec_capacity}
use Rattle.core_steps.specs.FollowUps.{AddsTasks, tasks_due}
use Rattle.core_steps.proofs.ticking.push_due.Given as goal

abbrev pub invariant-loop-endpoint : goal.invariant-loop-endpoint
invariant-loop-endpoint l =
    record {
      items : AddsTasks l.initial.follow_ups.items l.follow_ups.items (λ bytes. tasks_due l.due l.room l.endpoint);
      len : vec_len l.follow_ups ≤ vec_len l.initial.follow_ups + l.endpoint;
      capacity : vec_capacity l.follow_ups ≡ vec_capacity l.initial.follow_ups;
    }
