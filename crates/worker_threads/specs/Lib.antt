pub mod UnitFaults
pub mod Counted
pub mod Faults
pub mod Patience
pub mod Room
