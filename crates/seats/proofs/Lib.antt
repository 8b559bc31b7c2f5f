pub mod NameLemmas
pub mod EntryLemmas
pub mod FrameLemmas
pub mod PlaceLemmas
pub mod WalkLemmas
pub mod WholeLemmas
pub mod SayingLemmas
