-- What a unit with one worker ran, of which a report tells.
use Rattle.std.specs.Prelude.{◌≡◌, ℕ}
use Rattle.settings.specs.Settings.{Configuration}
use Rattle.one_thread.specs.Driver.{HasDriven}
use Rattle.one_thread.specs.Turns.{OutsideView}
use Rattle.one_thread.specs.declared.driver.Report.{Report as MachineReport}
use Rattle.workers.specs.declared.unit.Report.{Report}

-- The machine of these settings was driven for so many turns, fewer if a stop came, with a tick once the moment rose by so much; and the
-- report has its counts and its desks, and no job that was lost or given up. What came and where things went isn't said.
pub record IsDrivenReport (c : Configuration) (tick_ms turns : ℕ) (report : Report) : Type 0 where
  pub before : OutsideView
  pub after : OutsideView
  pub machine : MachineReport
  pub driven : HasDriven c tick_ms turns before after machine
  pub heard : report.heard ≡ machine.counts.heard
  pub sent : report.sent ≡ machine.counts.sent
  pub failed : report.failed ≡ machine.counts.failed
  pub desks : report.desks ≡ machine.desks
  pub none : (report.lost ≡ 0) × (report.dropped ≡ 0)
