pub mod Requests
pub mod Choice
pub mod Certificate
pub mod Fault
pub mod Owners
