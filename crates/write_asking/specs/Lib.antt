pub mod Write
pub mod BoundLaws
