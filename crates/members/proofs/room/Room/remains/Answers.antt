use Rattle.std.proofs.Common.{◌≡◌, ◌∙◌, Bool, true, false, ap, sym, rules}
use Rattle.std.specs.Prelude.{not, ◌&&◌}
use Rattle.members.specs.Presence.{is_overdue_at, is_present_at}
use Rattle.members.proofs.SpentLemmas.{remains_at}
use Rattle.members.proofs.room.Room.remains.Goals as goal

pub returns-then-is_present_at : goal.returns-then-is_present_at
returns-then-is_present_at c =
    let r = c.args.self.now in
    let present : is_present_at r.endpoints c.args.endpoint ≡ true = search rules in
    let overdue : c.is_overdue_at.result ≡ is_overdue_at r.timeout c.args.moment r.endpoints c.args.endpoint = search rules in
    ap not overdue
    ∙ ap (λ (b : Bool). b && not (is_overdue_at r.timeout c.args.moment r.endpoints c.args.endpoint)) (sym present)
    ∙ remains_at r c.args.moment c.args.endpoint

pub returns-else-is_present_at : goal.returns-else-is_present_at
returns-else-is_present_at c =
    let r = c.args.self.now in
    let absent : is_present_at r.endpoints c.args.endpoint ≡ false = search rules in
    c.if-is_present_at.false
    ∙ ap (λ (b : Bool). b && not (is_overdue_at r.timeout c.args.moment r.endpoints c.args.endpoint)) (sym absent)
    ∙ remains_at r c.args.moment c.args.endpoint
