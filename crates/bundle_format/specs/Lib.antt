pub mod Bundle
pub mod Counted
pub mod Examples
