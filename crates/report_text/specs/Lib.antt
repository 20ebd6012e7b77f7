pub mod Parts
pub mod Text
pub mod PartLaws
pub mod TextRight
pub mod TextLength
