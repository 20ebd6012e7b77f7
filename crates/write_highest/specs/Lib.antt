pub mod Top
pub mod TopLaws
