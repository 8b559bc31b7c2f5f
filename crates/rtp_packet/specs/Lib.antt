pub mod Grammar
pub mod Parts
pub mod Header
pub mod Fault
