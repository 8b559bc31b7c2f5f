pub mod LiveLemmas
pub mod LineLemmas
pub mod LastLemmas
pub mod AskedLemmas
pub mod RowTextLemmas
pub mod DigitLemmas
pub mod NumberLemmas
pub mod WordLemmas
