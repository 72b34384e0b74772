pub mod ReportText
pub mod text
pub mod bulk
