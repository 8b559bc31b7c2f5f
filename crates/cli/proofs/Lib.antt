pub mod CommandLineLemmas
pub mod OfflineLemmas
pub mod SheetLemmas
