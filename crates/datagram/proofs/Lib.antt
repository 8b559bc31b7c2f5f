pub mod ReaderLemmas
pub mod OneSaidLemmas
pub mod PacketLemmas
pub mod SpellingLemmas
pub mod SpelledLengthLemmas
pub mod ReadAgainLemmas
pub mod NoteLemmas
