use Rattle.std.proofs.Common.{arith}
use Rattle.forwarding.proofs.SendingLemmas.{given_more}
use Rattle.forwarding.proofs.sending.send_all.Goals as goal

pub loop-place-preserved : goal.loop-place-preserved
loop-place-preserved g c = (
  given_more c.args.outs.now c.loop-place._place c.index-outs-place.result (g.S.Sink.shown c.args.sink.now) (g.S.Sink.shown c.loop-place.sink)
      (g.S.Sink.shown c.give.new.sink) c.loop-place.done c.give.new.done c.loop-place-test.true c.loop-place.invariant.0 c.index-outs-place.is c.give.ensures.adds,
  omega (arith, c.give.ensures.few, c.loop-place.invariant.1),
)
