pub mod Runs
pub mod RunsLaws
pub mod Examples
