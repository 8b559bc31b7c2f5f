-- How far a run came.
use Rattle.std.specs.Prelude.{ℕ}
use Rattle.events.specs.declared.run_fault.RunFault.{RunFault}
use Rattle.events.specs.declared.run_fault.RunFault.TheVariants.{NoMemory}

-- how many events were done before memory was wanting
abbrev pub done_of : RunFault → ℕ
done_of (NoMemory done) = done
