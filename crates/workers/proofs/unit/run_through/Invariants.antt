use Rattle.std.proofs.Common.{◌+◌, length}
use Rattle.workers.proofs.unit.run_through.Given as goal

-- the ledger of the desks' calls, with a part for each publisher
abbrev pub ghosts-run_named-D-Ledger : goal.ghosts-run_named-D-Ledger
ghosts-run_named-D-Ledger g a = record { name = a.recorded.name; parts = a.recorded.parts }

abbrev pub ghosts-run_named-D-DeskCalls : goal.ghosts-run_named-D-DeskCalls
ghosts-run_named-D-DeskCalls g a = record { gap = a.settings.now.pli_gap_ms; request_ms = a.settings.now.request_ms }

-- the ledger of the seats' calls, with a part for each worker and one for the ingress
abbrev pub ghosts-run_named-C-Ledger : goal.ghosts-run_named-C-Ledger
ghosts-run_named-C-Ledger g a = record { name = a.made.name; parts = a.made.parts }

abbrev pub ghosts-run_named-C-SeatCalls : goal.ghosts-run_named-C-SeatCalls
ghosts-run_named-C-SeatCalls g a = record { publishers = length a.settings.now.endpoints; seats = a.settings.now.workers + 1 }

-- the route table
abbrev pub ghosts-run_named-J-Naming : goal.ghosts-run_named-J-Naming
ghosts-run_named-J-Naming g a = record { book = a.table.book; legs = a.table.legs }
