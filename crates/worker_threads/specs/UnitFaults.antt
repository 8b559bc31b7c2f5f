-- The faults of a run: their numbers, and what each comes from.
use Rattle.std.specs.Prelude.{ℕ}
use Rattle.routes.specs.declared.opening.RoutesFault.{RoutesFault}
use Rattle.routes.specs.declared.opening.RoutesFault.TheVariants.{NoPlace, NoMemory as no_memory_for_routes}
use Rattle.rate_desk.specs.declared.receipt.GatherFault.{GatherFault}
use Rattle.rate_desk.specs.declared.receipt.GatherFault.TheVariants.{Differs, Twice, Folded, Seats, Totals, NoMemory as no_memory_to_gather}
use Rattle.worker_threads.specs.declared.fault.UnitFault.{UnitFault}
use Rattle.worker_threads.specs.declared.fault.UnitFault.TheVariants.{NoMemory, Receive, Start, Gather}

abbrev pub unit_fault_number : UnitFault → ℕ
unit_fault_number NoMemory = 1
unit_fault_number Receive = 2
unit_fault_number Start = 3
unit_fault_number Gather = 4

-- why a run has no report, if the routes can't be opened
abbrev pub fault_of_routes : RoutesFault → UnitFault
fault_of_routes NoPlace = Start
fault_of_routes no_memory_for_routes = NoMemory

-- why a run has no report, if the desks can't be gathered
abbrev pub fault_of_gathering : GatherFault → UnitFault
fault_of_gathering (Differs receipt) = Gather
fault_of_gathering (Twice number) = Gather
fault_of_gathering (Folded number) = Gather
fault_of_gathering (Seats count) = Gather
fault_of_gathering (Totals publisher) = Gather
fault_of_gathering no_memory_to_gather = NoMemory
