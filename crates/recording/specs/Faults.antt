-- What a fault of one part is to the part above it.
use Rattle.recording.specs.declared.faults.ControlFault.{ControlFault}
use Rattle.recording.specs.declared.faults.ControlFault.TheVariants as control
use Rattle.recording.specs.declared.faults.WriterFault.{WriterFault}
use Rattle.recording.specs.declared.faults.WriterFault.TheVariants as writer_fault
use Rattle.recording.specs.declared.faults.RecordFault.{RecordFault}
use Rattle.recording.specs.declared.faults.RecordFault.TheVariants as record_fault

-- why a unit isn't recorded, if the thread that writes can't be had
abbrev pub record_fault_of : WriterFault → RecordFault
record_fault_of writer_fault.NoMemory = record_fault.NoMemory
record_fault_of writer_fault.System = record_fault.Failed

-- why it isn't steered, if what records it can't be had
abbrev pub control_fault_of : RecordFault → ControlFault
control_fault_of record_fault.NoMemory = control.NoMemory
control_fault_of record_fault.Exists = control.Failed
control_fault_of record_fault.Failed = control.Failed
