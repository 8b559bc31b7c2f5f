pub mod MarkLemmas
pub mod RowLemmas
pub mod ViewLemmas
