pub mod Shares
pub mod Gathered
