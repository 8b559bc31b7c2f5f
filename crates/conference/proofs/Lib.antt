pub mod DeliveryLemmas
pub mod ServedLemmas
pub mod LimitedLemmas
pub mod OpeningLemmas
