pub mod NumberLemmas
pub mod EntryLemmas
pub mod MessageLemmas
pub mod NackLemmas
pub mod WriteLemmas
pub mod NackWriteLemmas
