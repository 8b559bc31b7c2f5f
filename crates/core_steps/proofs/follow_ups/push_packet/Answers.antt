use Rattle.std.proofs.Common.{◌≡◌, ◌∙◌, ◌++◌, ℕ, ap, arith, map}
use Rattle.std.specs.Prelude.{filter}
use Rattle.events.specs.declared.job.Job.TheVariants.{Packet}
use Rattle.core_steps.specs.Hearing.{is_served_by, numbers_below}
use Rattle.core_steps.specs.Machine.{task_of}
use Rattle.core_steps.specs.World.{push}
use Rattle.core_steps.proofs.HearingLemmas.{chosen_one_more}
use Rattle.core_steps.proofs.follow_ups.push_packet.Goals as goal

pub loop-worker-preserved : goal.loop-worker-preserved
loop-worker-preserved c = record {
  items = chosen_one_more (is_served_by c.args.links.now c.args.room.now c.args.publisher)
      (λ bytes worker. push worker (Packet c.args.publisher bytes)) c.loop-worker.worker
      c.args.follow_ups.now.items c.loop-worker.follow_ups.items c.push_some.new.follow_ups.items c.packet_to.result
      c.loop-worker.invariant.items c.packet_to.ensures c.push_some.ensures.items;
  len = omega (arith, c.push_some.ensures.len, c.loop-worker.invariant.len);
  capacity = c.push_some.ensures.capacity ∙ c.loop-worker.invariant.capacity;
}

pub returns : goal.returns
returns c =
    let end : c.loop-worker.worker ≡ c.args.workers = omega (arith, c.loop-worker.auto.worker-end, c.loop-worker-test.false) in
    λ bits. c.loop-worker.invariant.items bits
    ∙ ap (λ (n : ℕ). map (task_of bits) c.args.follow_ups.now.items
    ++ map (λ worker. push worker (Packet c.args.publisher bits))
    (filter (is_served_by c.args.links.now c.args.room.now c.args.publisher) (numbers_below n))) end
