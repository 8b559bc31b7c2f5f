pub mod Asked
pub mod Lines
pub mod Words
pub mod BoundText
pub mod Outcome
pub mod CheckFile
