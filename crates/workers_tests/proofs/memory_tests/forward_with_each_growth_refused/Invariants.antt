use Rattle.workers_tests.proofs.memory_tests.forward_with_each_growth_refused.Given as goal

-- the table that was just opened
abbrev pub ghosts-sends_in : goal.ghosts-sends_in
ghosts-sends_in g a = record { book = a.blank.book; legs = a.blank.legs }
