pub mod StepLemmas
pub mod DrivingLemmas
pub mod TurnLemmas
pub mod DriverLemmas
pub mod NameLemmas
