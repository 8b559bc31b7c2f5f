use Rattle.std.proofs.Common.{◌≡◌, ◌∙◌, ◌∷◌, ◌-◌, [], ℕ, List, get_or, ap, arith, below_more}
use Rattle.std.proofs.lemmas.List.{get_or_append_left, get_or-append_right}
use Rattle.rate_desk.proofs.house.new_desks.Goals as goal

-- the lock that is put behind the others has the number of its place
pub loop-publisher-preserved : goal.loop-publisher-preserved
loop-publisher-preserved g c =
    let before = c.loop-publisher.desks.items in
    let made = c.new-in-loop-publisher.result in
    let pushed = c.in_ok-push.ensures.items in
    let few = c.loop-publisher.invariant in
    let none : c.loop-publisher.publisher - c.loop-publisher.publisher ≡ 0 = omega arith in
    record {
      parts = omega (arith, few.parts, c.split_off-share.ensures.parts_left);
      no_calls = omega (arith, c.split_off-share.ensures.amount_left, few.no_calls);
      count = omega (arith, few.count, c.in_ok-push.ensures.len);
      order = below_more _ _
          (λ p below. ap (λ (ns : List ℕ). get_or ns p 0) pushed
          ∙ get_or_append_left before (made ∷ []) 0 p (omega (arith, few.count, c.loop-publisher.desks.ok, below))
          ∙ few.order p below)
          (ap (λ (ns : List ℕ). get_or ns c.loop-publisher.publisher 0) pushed
          ∙ get_or-append_right before (made ∷ []) c.loop-publisher.publisher c.loop-publisher.publisher 0 (omega (arith, few.count, c.loop-publisher.desks.ok)) (omega arith)
          ∙ ap (λ (k : ℕ). get_or (made ∷ []) k 0) none
          ∙ c.new-in-loop-publisher.ensures);
    }
