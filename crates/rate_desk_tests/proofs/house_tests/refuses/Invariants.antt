use Rattle.rate_desk_tests.proofs.house_tests.refuses.Given as goal

abbrev pub ghosts-is_refused-D-Ledger : goal.ghosts-is_refused-D-Ledger
ghosts-is_refused-D-Ledger a = record { name = a.recorded.name; parts = a.recorded.parts }

abbrev pub ghosts-is_refused-D-DeskCalls : goal.ghosts-is_refused-D-DeskCalls
ghosts-is_refused-D-DeskCalls a = record { gap = 500; request_ms = 0 }

abbrev pub ghosts-is_refused-S-Ledger : goal.ghosts-is_refused-S-Ledger
ghosts-is_refused-S-Ledger a = record { name = a.made.name; parts = a.made.parts }

abbrev pub ghosts-is_refused-S-SeatCalls : goal.ghosts-is_refused-S-SeatCalls
ghosts-is_refused-S-SeatCalls a = record { publishers = a.publishers; seats = a.seats }
