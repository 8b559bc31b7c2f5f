-- The numbers of faults.
use Rattle.std.specs.Prelude.{ℕ}
use Rattle.forwarding.specs.declared.done.ForwardFault.{ForwardFault}
use Rattle.forwarding.specs.declared.done.ForwardFault.TheVariants.{NoView, NoMemory}

abbrev pub fault_number : ForwardFault → ℕ
fault_number NoView = 1
fault_number NoMemory = 2
