use Rattle.std.proofs.Common.{◌≡◌, ◌<◌, [], length}
use Rattle.ports.specs.declared.source.TheConstants.{MAX_FAULTS}
use Rattle.one_thread.specs.Driving.{IsIdle}
use Rattle.one_thread.specs.Turns.{HasMade, view_of}
use Rattle.one_thread.proofs.driver.run_turns.Given as goal

abbrev pub invariant-loop-turn : goal.invariant-loop-turn
invariant-loop-turn g l = record {
  made : HasMade l.fn.engine.world l.fn.engine.ticks l._turn l.engine.world l.engine.ticks l.engine.faults l.engine.tally
      (view_of (g.E.Entrance.given l.fn.entrance) (g.E.Entrance.told l.fn.entrance) (g.Snk.Sink.shown l.fn.sink))
      (view_of (g.E.Entrance.given l.entrance) (g.E.Entrance.told l.entrance) (g.Snk.Sink.shown l.sink));
  few : l.engine.faults < MAX_FAULTS;
  one : length l.engine.world.workers ≡ 1;
  idle : IsIdle l.engine.world;
  empty : l.engine.outs.items ≡ [];
  names : g.E.Entrance.names l.entrance ≡ g.E.Entrance.names l.fn.entrance;
}
