use Rattle.std.proofs.Common.{◌∙◌, arith}
use Rattle.one_thread.specs.Turns.{view_of}
use Rattle.one_thread.proofs.TurnLemmas.{ends_stopped, fails_in, made_more}
use Rattle.one_thread.proofs.driver.run_turns.Goals as goal

pub returns-then-engine-ge-MAX_FAULTS-clause-err : goal.returns-then-engine-ge-MAX_FAULTS-clause-err
returns-then-engine-ge-MAX_FAULTS-clause-err g c =
    fails_in c.args.engine.now.world c.args.engine.now.ticks c.loop-turn._turn c.loop-turn.engine.world c.turn.new.engine.world
    c.loop-turn.engine.ticks c.turn.new.engine.ticks c.loop-turn.engine.faults c.turn.new.engine.faults c.turn.new.engine.is_stopped c.loop-turn.engine.tally
    c.turn.new.engine.tally
    (view_of (g.E.Entrance.given c.args.entrance.now) (g.E.Entrance.told c.args.entrance.now) (g.Snk.Sink.shown c.args.sink.now))
    (view_of (g.E.Entrance.given c.loop-turn.entrance) (g.E.Entrance.told c.loop-turn.entrance) (g.Snk.Sink.shown c.loop-turn.sink))
    (view_of (g.E.Entrance.given c.turn.new.entrance) (g.E.Entrance.told c.turn.new.entrance) (g.Snk.Sink.shown c.turn.new.sink))
    c.loop-turn.invariant.made c.loop-turn.invariant.few c.in-Ok.ensures.ok (omega (arith, c.if-engine-ge-MAX_FAULTS.true))

pub returns-then-engine-clause-ok : goal.returns-then-engine-clause-ok
returns-then-engine-clause-ok g c =
    ends_stopped c.args.engine.now.world c.args.engine.now.ticks c.args.turns c.loop-turn._turn c.loop-turn.engine.world
    c.turn.new.engine.world c.loop-turn.engine.ticks c.turn.new.engine.ticks c.loop-turn.engine.faults c.turn.new.engine.faults
    c.turn.new.engine.is_stopped c.loop-turn.engine.tally c.turn.new.engine.tally
    (view_of (g.E.Entrance.given c.args.entrance.now) (g.E.Entrance.told c.args.entrance.now) (g.Snk.Sink.shown c.args.sink.now))
    (view_of (g.E.Entrance.given c.loop-turn.entrance) (g.E.Entrance.told c.loop-turn.entrance) (g.Snk.Sink.shown c.loop-turn.sink))
    (view_of (g.E.Entrance.given c.turn.new.entrance) (g.E.Entrance.told c.turn.new.entrance) (g.Snk.Sink.shown c.turn.new.sink))
    c.loop-turn.invariant.made c.loop-turn.invariant.few c.in-Ok.ensures.ok c.if-engine.true c.loop-turn-test.true

pub loop-turn-preserved : goal.loop-turn-preserved
loop-turn-preserved g c = record {
  made = made_more c.args.engine.now.world c.args.engine.now.ticks c.loop-turn._turn c.loop-turn.engine.world c.turn.new.engine.world
      c.loop-turn.engine.ticks c.turn.new.engine.ticks c.loop-turn.engine.faults c.turn.new.engine.faults c.turn.new.engine.is_stopped c.loop-turn.engine.tally
      c.turn.new.engine.tally
      (view_of (g.E.Entrance.given c.args.entrance.now) (g.E.Entrance.told c.args.entrance.now) (g.Snk.Sink.shown c.args.sink.now))
      (view_of (g.E.Entrance.given c.loop-turn.entrance) (g.E.Entrance.told c.loop-turn.entrance) (g.Snk.Sink.shown c.loop-turn.sink))
      (view_of (g.E.Entrance.given c.turn.new.entrance) (g.E.Entrance.told c.turn.new.entrance) (g.Snk.Sink.shown c.turn.new.sink))
      c.loop-turn.invariant.made c.loop-turn.invariant.few c.in-Ok.ensures.ok c.if-engine.false;
  few = omega (arith, c.if-engine-ge-MAX_FAULTS.false);
  one = c.in-Ok.ensures.one;
  idle = c.in-Ok.ensures.idle;
  empty = c.in-Ok.ensures.empty;
  names = c.in-Ok.ensures.names ∙ c.loop-turn.invariant.names;
}
