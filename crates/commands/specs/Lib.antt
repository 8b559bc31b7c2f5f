pub mod Asking
pub mod Commands
pub mod Describing
pub mod Numbers
pub mod Planned
