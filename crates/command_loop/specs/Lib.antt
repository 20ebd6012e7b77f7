pub mod Command
pub mod CommandLaws
