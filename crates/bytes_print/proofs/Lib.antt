pub mod DigitsLaws
pub mod Printing
pub mod PrintedLaws
