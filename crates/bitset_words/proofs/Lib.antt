pub mod Reading
pub mod Joining
pub mod RunLaws
pub mod Examples
