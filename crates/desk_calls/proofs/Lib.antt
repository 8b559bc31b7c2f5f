pub mod ChangeLemmas
pub mod NotificationLemmas
pub mod CallLemmas
