use Rattle.std.proofs.Common.{◌≡◌, ◌+◌, ◌≤◌, take, vec_len}
use Rattle.std.specs.Prelude.{vec_capacity}
use Rattle.std.specs.List.{filter_map}
use Rattle.core_steps.specs.FollowUps.{AddsTasks}
use Rattle.core_steps.specs.Hearing.{task_after}
use Rattle.core_steps.specs.Machine.{setup_of}
use Rattle.core_steps.proofs.order_follow_ups.push_after.Given as goal

abbrev pub invariant-loop-order : goal.invariant-loop-order
invariant-loop-order l =
    record {
      follow_ups : AddsTasks l.initial.follow_ups.items l.follow_ups.items
          (λ bytes. filter_map (task_after (setup_of l.setup) l.room) (take l.order-index l.orders));
      len : vec_len l.follow_ups ≤ vec_len l.initial.follow_ups + l.order-index;
      capacity : vec_capacity l.follow_ups ≡ vec_capacity l.initial.follow_ups;
    }
