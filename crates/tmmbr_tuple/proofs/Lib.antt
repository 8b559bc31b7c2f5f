pub mod TupleLemmas
pub mod RatePairLemmas
