pub mod Skip
pub mod Leg
pub mod Numbering
pub mod Sequence
