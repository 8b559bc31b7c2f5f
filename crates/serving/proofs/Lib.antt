pub mod RepeatLemmas
pub mod ReportLemmas
pub mod ServeLemmas
