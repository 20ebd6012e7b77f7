pub mod Digits
pub mod Framing
