use Rattle.workers_tests.proofs.forward_tests.forwards_as_in_the_examples.Given as goal

-- the table that was just opened
abbrev pub ghosts-forwards_in : goal.ghosts-forwards_in
ghosts-forwards_in g a = record { book = a.blank.book; legs = a.blank.legs }
