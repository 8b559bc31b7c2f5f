pub mod NumberLemmas
pub mod FixedLemmas
pub mod PartLemmas
pub mod PacketLemmas
pub mod WriteLemmas
