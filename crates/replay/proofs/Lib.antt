pub mod ByFileLemmas
pub mod ReplayLemmas
pub mod ScriptLemmas
pub mod ShownLemmas
pub mod UtcLemmas
