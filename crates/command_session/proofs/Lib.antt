pub mod ReportLaws
pub mod EndLaws
