pub mod Overwritten
pub mod OverwrittenLaws
