pub mod Names
pub mod Frame
pub mod Places
pub mod Exchange
pub mod Units
pub mod Spoken
pub mod Seat
pub mod Reread
