use Rattle.workers_tests.proofs.feedback_tests.feedback_as_row_21.Given as goal

-- the table that was just opened
abbrev pub ghosts-tells_in-J-Naming : goal.ghosts-tells_in-J-Naming
ghosts-tells_in-J-Naming g a = record { book = a.blank.book; legs = a.blank.legs }

-- the ledgers of the house
abbrev pub ghosts-tells_in-D-Ledger : goal.ghosts-tells_in-D-Ledger
ghosts-tells_in-D-Ledger g a = record { name = a.recorded.name; parts = a.recorded.parts }

abbrev pub ghosts-tells_in-D-DeskCalls : goal.ghosts-tells_in-D-DeskCalls
ghosts-tells_in-D-DeskCalls g a = record { gap = 500; request_ms = 0 }

abbrev pub ghosts-tells_in-C-Ledger : goal.ghosts-tells_in-C-Ledger
ghosts-tells_in-C-Ledger g a = record { name = a.made.name; parts = a.made.parts }

abbrev pub ghosts-tells_in-C-SeatCalls : goal.ghosts-tells_in-C-SeatCalls
ghosts-tells_in-C-SeatCalls g a = record { publishers = 2; seats = 1 }
