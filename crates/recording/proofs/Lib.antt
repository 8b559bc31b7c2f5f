pub mod DigitLemmas
pub mod NextLemmas
