pub mod Fault
pub mod Settings
pub mod Links
pub mod Places
pub mod Example
