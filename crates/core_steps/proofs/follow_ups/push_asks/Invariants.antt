use Rattle.std.proofs.Common.{◌≡◌, ◌+◌, ◌≤◌, ◌++◌, take, vec_len}
use Rattle.std.specs.Prelude.{vec_capacity}
use Rattle.std.specs.List.{filter_map, flat_map}
use Rattle.core_steps.specs.FollowUps.{AddsTasks}
use Rattle.core_steps.specs.Hearing.{refusal_for, task_for}
use Rattle.core_steps.proofs.follow_ups.push_asks.Given as goal

abbrev pub invariant-loop-ask : goal.invariant-loop-ask
invariant-loop-ask l =
    record {
      follow_ups : AddsTasks l.initial.follow_ups.items l.follow_ups.items
          (λ bytes. filter_map (task_for l.links l.room l.endpoint) (take l.ask-index l.asks));
      outs : l.outs.items ≡ l.initial.outs.items ++ flat_map (λ a. refusal_for (task_for l.links l.room l.endpoint a)) (take l.ask-index l.asks);
      len : vec_len l.follow_ups ≤ vec_len l.initial.follow_ups + l.ask-index;
      outs_len : vec_len l.outs ≤ vec_len l.initial.outs + l.ask-index;
      capacity : vec_capacity l.follow_ups ≡ vec_capacity l.initial.follow_ups;
      outs_capacity : vec_capacity l.outs ≡ vec_capacity l.initial.outs;
    }
