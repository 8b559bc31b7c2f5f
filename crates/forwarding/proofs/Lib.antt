pub mod AskingLemmas
pub mod PrefixLemmas
pub mod SendingLemmas
