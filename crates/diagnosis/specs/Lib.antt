pub mod Sightings
pub mod Flow
pub mod Reasons
pub mod Kinds
pub mod Remarks
pub mod ReasonLine
