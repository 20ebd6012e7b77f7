pub mod Lines
pub mod KeepLaws
