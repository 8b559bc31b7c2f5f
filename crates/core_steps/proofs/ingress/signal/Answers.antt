use Rattle.std.proofs.Common.{ℕ, subst}
use Rattle.desk.specs.declared.call.Call.TheVariants.{Time}
use Rattle.core_steps.specs.Machine.{state_of}
use Rattle.core_steps.specs.Rule.{AsksDesk}
use Rattle.core_steps.specs.Run.{Leaves}
use Rattle.core_steps.proofs.ingress.signal.Goals as goal

pub returns : goal.returns
returns c =
    λ t. let w = state_of c.args.m.now in
    let P : ℕ → Type 0 = λ n. Leaves (AsksDesk w t c.args.publisher (Time n c.args.signal)) w c.args.outs.now.items (state_of c.ask_desk.new.m) c.ask_desk.new.outs.items in
    subst P c.moment-moment.ensures (c.ask_desk.ensures t)
