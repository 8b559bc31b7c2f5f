use Rattle.rate_desk.specs.Gathered.{AddUpBelow}
use Rattle.rate_desk.proofs.gathering.first_off.Given as goal

abbrev pub invariant-loop-publisher : goal.invariant-loop-publisher
invariant-loop-publisher g l = AddUpBelow l.publisher l.seats l.desks
