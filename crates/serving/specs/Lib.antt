pub mod DrivenReport
pub mod Repeated
pub mod ReportText
pub mod Serving
