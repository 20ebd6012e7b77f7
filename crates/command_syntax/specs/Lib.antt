pub mod Syntax
pub mod Line
pub mod LineLaws
