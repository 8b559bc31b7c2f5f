use Rattle.std.proofs.Common.{List, [], ◌∷◌, arith, sym, subst, length-append, length, ap}
use Rattle.std.specs.Prelude.{All}
use Rattle.std.proofs.lemmas.List.Elements.{All-append, All-from_recursion}
use Rattle.desk.specs.State.{DeskState}
use Rattle.core_steps.specs.Opening.{IsNewDesk}
use Rattle.core_steps.proofs.world.new_desks.Goals as goal

pub loop-made-preserved : goal.loop-made-preserved
loop-made-preserved c =
    let desk = c.in_ok-new_desk.field-0 in
    let before = c.loop-made.desks.items in
    record {
      count = omega (arith, ap length c.in_ok-push.ensures.items, length-append before (desk ∷ []), c.loop-made.invariant.count);
      each = subst (λ (ds : List DeskState). All (IsNewDesk c.args.settings.now) ds) (sym c.in_ok-push.ensures.items)
          (All-append (IsNewDesk c.args.settings.now) before (desk ∷ []) c.loop-made.invariant.each
          (All-from_recursion (IsNewDesk c.args.settings.now) (desk ∷ []) (c.in_ok-new_desk.ensures, tt)));
    }
