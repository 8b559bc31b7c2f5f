use Rattle.std.proofs.Common.{ap, length, not, lit<, arith}
use Rattle.desk.specs.Effect.{is_member}
use Rattle.desk.proofs.EffectLemmas.{length-passed}
use Rattle.desk.proofs.effect.list_fresh.Goals as goal

pub push-requires : goal.push-requires
push-requires c = (
  lit< tt,
  let few = length-passed (λ r. not (is_member c.args.former.now r)) c.args.set.now c.loop-request.request-index in
      omega (arith, few, ap length c.loop-request.invariant),
)
