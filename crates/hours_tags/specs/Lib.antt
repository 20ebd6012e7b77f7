pub mod Hours
pub mod HoursLaws
pub mod Examples
