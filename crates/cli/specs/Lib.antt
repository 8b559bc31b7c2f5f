pub mod CommandLine
pub mod Encoding
pub mod Statuses
pub mod Ends
pub mod Plan
pub mod Printed
pub mod Session
pub mod Sheet
