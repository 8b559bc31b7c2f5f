use Rattle.rate_desk_tests.proofs.gather_tests.assert_gathers.Given as goal

abbrev pub ghosts-gathers-D-Ledger : goal.ghosts-gathers-D-Ledger
ghosts-gathers-D-Ledger g a = record { name = a.recorded.name; parts = a.recorded.parts }

abbrev pub ghosts-gathers-D-DeskCalls : goal.ghosts-gathers-D-DeskCalls
ghosts-gathers-D-DeskCalls g a = record { gap = 500; request_ms = 0 }

abbrev pub ghosts-gathers-S-Ledger : goal.ghosts-gathers-S-Ledger
ghosts-gathers-S-Ledger g a = record { name = a.made.name; parts = a.made.parts }

abbrev pub ghosts-gathers-S-SeatCalls : goal.ghosts-gathers-S-SeatCalls
ghosts-gathers-S-SeatCalls g a = record { publishers = 2; seats = 4 }
