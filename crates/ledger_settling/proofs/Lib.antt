pub mod Judging
pub mod Loops
