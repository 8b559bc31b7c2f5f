pub mod Limited
pub mod Conference
pub mod Certified
