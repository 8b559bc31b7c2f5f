pub mod Held
pub mod Opening
pub mod Serving
pub mod Sending
pub mod Announcing
pub mod Certifying
