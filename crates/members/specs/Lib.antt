pub mod Calls
pub mod Held
pub mod Presence
pub mod Reception
pub mod Room
pub mod Rows
pub mod Stays
pub mod Stream
