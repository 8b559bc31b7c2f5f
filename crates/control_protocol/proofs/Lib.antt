pub mod InboxLemmas
pub mod PlaceLemmas
pub mod NewsLemmas
