pub mod Bytes
pub mod Padding
