pub mod RefusalLemmas
pub mod ReportLemmas
