pub mod Inserting
pub mod Keeping
pub mod Sorting
pub mod Keys
