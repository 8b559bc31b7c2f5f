use Rattle.rate_desk_tests.proofs.house_tests.house_beside_desks.Given as goal

abbrev pub ghosts-beside_desks-D-Ledger : goal.ghosts-beside_desks-D-Ledger
ghosts-beside_desks-D-Ledger g a = record { name = a.recorded.name; parts = a.recorded.parts }

abbrev pub ghosts-beside_desks-D-DeskCalls : goal.ghosts-beside_desks-D-DeskCalls
ghosts-beside_desks-D-DeskCalls g a = record { gap = 500; request_ms = 1000 }

abbrev pub ghosts-beside_desks-S-Ledger : goal.ghosts-beside_desks-S-Ledger
ghosts-beside_desks-S-Ledger g a = record { name = a.made.name; parts = a.made.parts }

abbrev pub ghosts-beside_desks-S-SeatCalls : goal.ghosts-beside_desks-S-SeatCalls
ghosts-beside_desks-S-SeatCalls g a = record { publishers = 2; seats = 2 }
