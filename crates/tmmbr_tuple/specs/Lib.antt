pub mod Tuple
pub mod RatePair
