pub mod Searching
pub mod Assembling
