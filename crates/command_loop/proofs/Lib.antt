pub mod PassLaws
pub mod RunLaws
