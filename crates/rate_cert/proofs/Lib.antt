pub mod CheckerLemmas
pub mod RequestLemmas
pub mod ChoiceLemmas
pub mod Pigeonhole
pub mod Smallest
pub mod OwnerLemmas
