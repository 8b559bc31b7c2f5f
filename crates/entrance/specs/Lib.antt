pub mod Entrance
pub mod Kept
