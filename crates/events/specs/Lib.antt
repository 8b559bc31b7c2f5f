pub mod Refusals
pub mod RunFaults
pub mod Jobs
