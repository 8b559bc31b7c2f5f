pub mod AsBox
pub mod HeldLemmas
pub mod ServingLemmas
pub mod SendingLemmas
