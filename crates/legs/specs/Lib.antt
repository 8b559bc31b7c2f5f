pub mod Legs
pub mod Plan
pub mod Planning
