use Rattle.replay.proofs.utc.+month_behind.Given as goal

abbrev pub decreases-month_behind : goal.decreases-month_behind
decreases-month_behind l = l.left
