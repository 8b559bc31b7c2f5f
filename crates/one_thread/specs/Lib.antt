pub mod Driving
pub mod Turns
pub mod Driver
