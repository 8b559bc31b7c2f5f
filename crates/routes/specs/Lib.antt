pub mod Publications
pub mod Views
