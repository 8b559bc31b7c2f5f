pub mod Chains
pub mod Kept
