pub mod Items
pub mod Rows
