pub mod ClockRates
pub mod Records
pub mod UnitInfo
