pub mod Readdressed
pub mod Shared
pub mod Rtp
