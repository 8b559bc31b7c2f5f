pub mod EntranceLemmas
