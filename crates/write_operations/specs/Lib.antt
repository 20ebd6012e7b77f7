pub mod Operations
pub mod NamedLaws
pub mod Drafted
