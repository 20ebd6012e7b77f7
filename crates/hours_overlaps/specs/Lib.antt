pub mod Overlaps
pub mod Indices
pub mod OverlapsLaws
