use Rattle.std.proofs.Common.{◌≡◌, ◌∙◌, ℕ, ◌+◌, ◌*◌, ◌≤◌, length, ap, sym, subst}
use Rattle.std.specs.Prelude.{IfOk}
use Rattle.members.specs.Calls.{step_of}
use Rattle.members.specs.Room.{RoomState}
use Rattle.members.proofs.OrderCountLemmas.{few_orders}
use Rattle.members.proofs.room.Room.most_orders.Goals as goal

pub returns-clause-most : goal.returns-clause-most
returns-clause-most c = λ call.
    let legs : length c.args.self.now.legs ≡ length c.as_slice.result.now =
    ap (λ (r : RoomState). length r.legs) (sym c.self.view_is) ∙ ap length (sym c.as_slice.ensures.value) in
    subst (λ (n : ℕ). IfOk (step_of c.args.self.now call) (λ s. length s.orders ≤ 4 * n + 1)) legs
    (few_orders c.args.self.now call)
