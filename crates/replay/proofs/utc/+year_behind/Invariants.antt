use Rattle.replay.proofs.utc.+year_behind.Given as goal

abbrev pub decreases-year_behind : goal.decreases-year_behind
decreases-year_behind l = l.left
