pub mod Head
pub mod Notification
pub mod DeskCalls
pub mod Drafts
