pub mod Faults
pub mod NextRecord
pub mod Lines
pub mod Taken
pub mod Tapes
pub mod HandedOn
pub mod NotedStrangers
