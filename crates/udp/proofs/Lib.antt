pub mod GoodbyeLemmas
pub mod SeatLemmas
pub mod PolicyLemmas
pub mod DoorLemmas
pub mod ScribeLemmas
pub mod NotedLemmas
