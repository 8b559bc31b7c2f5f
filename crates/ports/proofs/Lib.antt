pub mod GrowsLemmas
