pub mod NumberingLemmas
pub mod SequenceLemmas
