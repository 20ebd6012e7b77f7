pub mod Choose
pub mod FrontLaws
pub mod ShapeLaws
pub mod ChosenLaws
