use Rattle.one_thread.proofs.TurnLemmas.{given_more}
use Rattle.one_thread.proofs.turn.give_all.Goals as goal

pub loop-place-preserved : goal.loop-place-preserved
loop-place-preserved g c =
    given_more c.args.outs.now c.loop-place.place c.index-outs-place.result (g.S.Sink.shown c.args.sink.now) (g.S.Sink.shown c.loop-place.sink)
    (g.S.Sink.shown c.give.new.sink) c.args.tally.now c.loop-place.tally c.give.new.tally c.loop-place-test.true c.loop-place.invariant
    c.index-outs-place.is c.give.ensures
