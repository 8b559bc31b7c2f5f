use Rattle.std.proofs.Common.{◌≡◌, ◌∙◌, ◌+◌, ℕ, ap, sym, length, arith}
use Rattle.std.specs.Prelude.{nat_lt}
use Rattle.members.specs.declared.stays.TheConstants.{MAX_STAY}
use Rattle.members.specs.Stays.{coming_count}
use Rattle.members.specs.Room.{RoomState, after_leaving}
use Rattle.members.proofs.SpentLemmas.{heard_while_left, heard_absent, coming_as_held}
use Rattle.members.proofs.room.Room.spends_stays.Goals as goal

pub returns-then-self-legs-le-MAX_STAY : goal.returns-then-self-legs-le-MAX_STAY
returns-then-self-legs-le-MAX_STAY c =
    let next = ap (λ (r : RoomState). r.next) c.self.view_is in
    let legs = ap (λ (r : RoomState). length r.legs) c.self.view_is in
    heard_while_left c.args.self.now c.args.moment c.args.at
    (omega (arith, c.if-self-legs-le-MAX_STAY.true, next, legs, ap length c.as_slice-legs.ensures.value))

pub returns : goal.returns
returns c =
    let next = ap (λ (r : RoomState). r.next) c.self.view_is in
    let t = after_leaving c.args.self.now c.args.moment in
    let held = coming_as_held c.args.self.now t.endpoints c.args.at c.args.moment in
    let same : c.args.self.now.next + coming_count t.endpoints c.args.at t.legs ≡ c.self.inside.next + c.count_coming.result =
    omega (arith, next, held, c.count_coming.ensures)
    in heard_absent c.args.self.now c.args.moment c.args.at (sym c.remains.ensures ∙ c.if-remains.false) _ (ap (λ (n : ℕ). nat_lt MAX_STAY n) same)
