pub mod Below
pub mod Bits
pub mod BelowLaws
pub mod BitsLaws
