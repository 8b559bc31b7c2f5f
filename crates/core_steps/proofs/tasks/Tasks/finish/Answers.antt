use Rattle.std.proofs.Common.{◌<◌, ◌≤◌, List, length, drop, sym, ap, arith}
use Rattle.std.specs.Prelude.{map}
use Rattle.members.specs.declared.order.Order.TheVariants.{Arrive}
use Rattle.core_steps.specs.declared.tasks.FollowUp.TheVariants.{Pulse}
use Rattle.core_steps.specs.Machine.{task_of}
use Rattle.core_steps.specs.World.{Task, order}
use Rattle.core_steps.proofs.TaskLemmas.{first_of_orders, first_of_rest}
use Rattle.core_steps.proofs.tasks.Tasks.finish.Goals as goal

pub returns-then-self-len-clause-tasks : goal.returns-then-self-len-clause-tasks
returns-then-self-len-clause-tasks c =
    let t = c.args.self.now in
    let lt : t.orders_done < length t.orders.items = omega arith in
    sym (ap (λ (l : List Task). drop 1 l)
    (first_of_orders order t.orders.items t.orders_done (Arrive 0 0) (map (task_of t.datagram) (drop t.follow_ups_done t.follow_ups.items)) lt))

pub returns-then-self-len-2-clause-tasks : goal.returns-then-self-len-2-clause-tasks
returns-then-self-len-2-clause-tasks c =
    let t = c.args.self.now in
    let past : length t.orders.items ≤ t.orders_done = omega arith in
    let lt : t.follow_ups_done < length t.follow_ups.items = omega arith in
    sym (ap (λ (l : List Task). drop 1 l)
    (first_of_rest order (task_of t.datagram) t.orders.items t.follow_ups.items t.orders_done t.follow_ups_done (Pulse 0) past lt))
