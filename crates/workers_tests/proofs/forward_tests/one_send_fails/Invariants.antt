use Rattle.workers_tests.proofs.forward_tests.one_send_fails.Given as goal

-- the table that was just opened
abbrev pub ghosts-fails_once_in : goal.ghosts-fails_once_in
ghosts-fails_once_in g a = record { book = a.blank.book; legs = a.blank.legs }
