pub mod BinaryLaws
pub mod StandardLaws
