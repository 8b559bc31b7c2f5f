pub mod Scale
pub mod Line
pub mod Picture
