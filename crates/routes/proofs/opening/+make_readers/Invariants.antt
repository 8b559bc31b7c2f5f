use Rattle.routes.proofs.opening.+make_readers.Given as goal

abbrev pub decreases-make_readers : goal.decreases-make_readers
decreases-make_readers g l = l.count
