use Rattle.replay.proofs.shown.+names_source.Given as goal

abbrev pub decreases-names_source : goal.decreases-names_source
decreases-names_source l = l.left
