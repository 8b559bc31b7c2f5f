pub mod ChainLemmas
pub mod KeptLemmas
pub mod LinkLemmas
pub mod PushLemmas
pub mod WalkLemmas
