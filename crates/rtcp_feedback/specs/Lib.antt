pub mod Fault
pub mod Nack
pub mod Grammar
pub mod Reading
pub mod Writing
