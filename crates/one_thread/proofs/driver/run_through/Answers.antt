use Rattle.std.proofs.Common.{◌∙◌}
use Rattle.one_thread.specs.Turns.{view_of}
use Rattle.one_thread.proofs.DriverLemmas.{desks_of_run, has_driven}
use Rattle.one_thread.proofs.DrivingLemmas.{new_idle}
use Rattle.one_thread.proofs.driver.run_through.Goals as goal

pub run_turns-requires-clause-idle : goal.run_turns-requires-clause-idle
run_turns-requires-clause-idle g c =
    new_idle c.args.settings.now c.in_ok-engine.engine.world c.in_ok-engine.ensures.world
    (c.in_ok-engine.ensures.world.worker_count ∙ c.requires.one)

pub returns-clause-ok : goal.returns-clause-ok
returns-clause-ok g c =
    has_driven c.args.settings.now c.args.pace.tick_ms c.args.pace.turns
    (view_of (g.E.Entrance.given c.args.entrance.now) (g.E.Entrance.told c.args.entrance.now) (g.Snk.Sink.shown c.args.sink.now))
    (view_of (g.E.Entrance.given c.run_turns.new.entrance) (g.E.Entrance.told c.run_turns.new.entrance) (g.Snk.Sink.shown c.run_turns.new.sink))
    c.in_ok-engine.engine.world c.run_turns.new.engine.world c.in_ok-engine.engine.ticks
    c.run_turns.new.engine.faults c.run_turns.new.engine.tally c.report_of.result c.in_ok-engine.ensures.range c.in_ok-engine.ensures.world
    c.in_ok-engine.ensures.ticks c.in_ok-run_turns.ensures.ok c.in_ok-run_turns.ensures.few c.in_ok-run_turns.ensures.idle
    c.report_of.ensures.counts c.report_of.ensures.desks

pub returns-clause-desks : goal.returns-clause-desks
returns-clause-desks g c =
    desks_of_run c.args.settings.now c.in_ok-engine.engine.world c.run_turns.new.engine.world c.in_ok-engine.engine.ticks
    c.args.pace.turns c.run_turns.new.engine.faults c.run_turns.new.engine.tally
    (view_of (g.E.Entrance.given c.args.entrance.now) (g.E.Entrance.told c.args.entrance.now) (g.Snk.Sink.shown c.args.sink.now))
    (view_of (g.E.Entrance.given c.run_turns.new.entrance) (g.E.Entrance.told c.run_turns.new.entrance) (g.Snk.Sink.shown c.run_turns.new.sink))
    c.report_of.result c.in_ok-engine.ensures.world c.in_ok-run_turns.ensures.ok c.report_of.ensures.desks
