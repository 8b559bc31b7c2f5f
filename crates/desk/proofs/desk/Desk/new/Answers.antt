use Rattle.std.proofs.Common.{ap}
use Rattle.desk.proofs.DeskLemmas.{held-made}
use Rattle.desk.proofs.desk.Desk.new.Goals as goal

pub invariant_of-result : goal.invariant_of-result
invariant_of-result c =
    held-made c.args.gap c.args.request_ms c.new.result c.new-2.result c.in_ok-with_capacity.field-0.items c.in_ok-with_capacity.field-0.capacity
    c.new-2.ensures.value c.new-2.ensures.base
    (ap (λ b. b.items) c.in_ok-with_capacity.ensures) (ap (λ b. b.capacity) c.in_ok-with_capacity.ensures) c.new.ensures.whole c.new.ensures.stand

pub returns-clause-legal : goal.returns-clause-legal
returns-clause-legal c =
    (held-made c.args.gap c.args.request_ms c.new.result c.new-2.result c.in_ok-with_capacity.field-0.items c.in_ok-with_capacity.field-0.capacity
    c.new-2.ensures.value c.new-2.ensures.base
    (ap (λ b. b.items) c.in_ok-with_capacity.ensures) (ap (λ b. b.capacity) c.in_ok-with_capacity.ensures) c.new.ensures.whole c.new.ensures.stand).legal
