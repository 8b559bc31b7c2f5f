use Rattle.std.proofs.Common.{◌∷◌, [], List, sym, subst, arith, length-append}
use Rattle.std.specs.Prelude.{All}
use Rattle.std.proofs.lemmas.List.Elements.{All-push}
use Rattle.desk.specs.State.{DeskState}
use Rattle.rate_desk.specs.Shares.{IsDeskOf}
use Rattle.rate_desk.proofs.gathering.unlock.Goals as goal

pub loop-lock-preserved : goal.loop-lock-preserved
loop-lock-preserved g c =
    let P : DeskState → Type 0 = IsDeskOf g.D.DeskCalls.gap g.D.DeskCalls.request_ms in
    record {
      count = omega (arith, c.in-Ok.ensures.len, length-append c.loop-lock.yielded (c.in-Some.lock ∷ []));
      room = omega (arith, c.push.ensures.capacity, c.loop-lock.invariant.room);
      each = subst (λ (ds : List DeskState). All P ds) (sym c.in-Ok.ensures.items)
          (All-push P c.loop-lock.desks.items c.into_desk-desk.result c.loop-lock.invariant.each c.into_desk-desk.ensures);
    }
