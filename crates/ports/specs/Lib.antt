pub mod Outside
pub mod Ticks
