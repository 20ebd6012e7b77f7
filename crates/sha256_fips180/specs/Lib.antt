pub mod Fips180
pub mod Examples
pub mod Lengths
pub mod Standard
