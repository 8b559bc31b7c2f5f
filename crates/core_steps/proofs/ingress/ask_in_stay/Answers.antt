use Rattle.std.proofs.Common.{sym, ◌∙◌}
use Rattle.desk_calls.specs.DeskCalls.{stay_call}
use Rattle.core_steps.specs.Machine.{state_of, tasks_of}
use Rattle.core_steps.proofs.IngressLemmas.{order_asks, order_asks_nobody, nobody_left}
use Rattle.core_steps.proofs.ingress.ask_in_stay.Goals as goal

pub returns-in-Some : goal.returns-in-Some
returns-in-Some c =
    λ t. order_asks (state_of c.args.m.now) (state_of c.ask_desk.new.m) t (stay_call c.args.m.now.front.setup.links c.args.leg c.args.stay c.args.change)
    c.in-Some.publisher c.in-Some.call c.args.outs.now.items c.ask_desk.new.outs.items (sym c.stay_call.ensures.value ∙ c.in-Some.is) (c.ask_desk.ensures t)

pub returns-in-None : goal.returns-in-None
returns-in-None c =
    λ t. order_asks_nobody (state_of c.args.m.now) _ t (stay_call c.args.m.now.front.setup.links c.args.leg c.args.stay c.args.change) c.args.outs.now.items c.args.outs.now.items
    (sym c.stay_call.ensures.value ∙ c.in-None.is)
    (nobody_left (state_of c.args.m.now) t (tasks_of c.finish.new.self) c.args.outs.now.items c.knows_counts.ensures.lost c.knows_counts.ensures.tmmbns c.finish.ensures.tasks)
