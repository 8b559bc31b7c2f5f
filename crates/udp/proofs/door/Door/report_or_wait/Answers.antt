use Rattle.std.proofs.Common.{inr}
use Rattle.udp.proofs.door.Door.report_or_wait.Goals as goal

pub returns-in_ok-came-in-None-clause-goes : goal.returns-in_ok-came-in-None-clause-goes
returns-in_ok-came-in-None-clause-goes g c = inr (record {
  turned = c.report.new.self.hearing;
  none = c.in-None.ensures.none;
  turn = c.in-None.ensures.turn;
  policies = c.in-None.ensures.idle.1;
  waits = c.in_ok-came-in-None.ensures.waits;
})
