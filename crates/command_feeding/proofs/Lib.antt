pub mod OutLaws
pub mod LineLaws
pub mod TurnLaws
pub mod RunLaws
