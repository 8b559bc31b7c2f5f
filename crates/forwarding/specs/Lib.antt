pub mod Sending
pub mod Forwarding
pub mod Asking
pub mod Faults
pub mod Refusing
