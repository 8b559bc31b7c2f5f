use Rattle.std.proofs.Common.{◌≡◌, ◌+◌, ◌≤◌, map, vec_len}
use Rattle.std.specs.Prelude.{filter, vec_capacity}
use Rattle.events.specs.declared.job.Job.TheVariants.{Packet}
use Rattle.core_steps.specs.FollowUps.{AddsTasks}
use Rattle.core_steps.specs.Hearing.{is_served_by, numbers_below}
use Rattle.core_steps.specs.World.{push}
use Rattle.core_steps.proofs.follow_ups.push_packet.Given as goal

abbrev pub invariant-loop-worker : goal.invariant-loop-worker
invariant-loop-worker l =
    record {
      items : AddsTasks l.initial.follow_ups.items l.follow_ups.items
          (λ bytes. map (λ worker. push worker (Packet l.publisher bytes)) (filter (is_served_by l.links l.room l.publisher) (numbers_below l.worker)));
      len : vec_len l.follow_ups ≤ vec_len l.initial.follow_ups + l.worker;
      capacity : vec_capacity l.follow_ups ≡ vec_capacity l.initial.follow_ups;
    }
