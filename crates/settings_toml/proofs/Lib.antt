pub mod BegunLemmas
pub mod DistanceLemmas
pub mod KeyLemmas
pub mod MeantLemmas
pub mod SayingLemmas
pub mod SettingsLemmas
