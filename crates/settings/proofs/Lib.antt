pub mod SettingsLemmas
pub mod LinkLemmas
