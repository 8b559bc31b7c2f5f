use Rattle.rate_desk_tests.proofs.thread_tests.by_threads.Given as goal

abbrev pub ghosts-four_threads-D-Ledger : goal.ghosts-four_threads-D-Ledger
ghosts-four_threads-D-Ledger g a = record { name = a.recorded.name; parts = a.recorded.parts }

abbrev pub ghosts-four_threads-D-DeskCalls : goal.ghosts-four_threads-D-DeskCalls
ghosts-four_threads-D-DeskCalls g a = record { gap = 500; request_ms = 0 }

abbrev pub ghosts-four_threads-S-Ledger : goal.ghosts-four_threads-S-Ledger
ghosts-four_threads-S-Ledger g a = record { name = a.made.name; parts = a.made.parts }

abbrev pub ghosts-four_threads-S-SeatCalls : goal.ghosts-four_threads-S-SeatCalls
ghosts-four_threads-S-SeatCalls g a = record { publishers = 2; seats = 4 }
