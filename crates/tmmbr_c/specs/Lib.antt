pub mod Numbers
pub mod First
pub mod Order
pub mod Renumbering
pub mod Answer
pub mod Verdict
pub mod Held
pub mod Standing
