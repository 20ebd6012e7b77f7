pub mod Merge
pub mod Layout
pub mod Merging
pub mod MergeLaws
pub mod ClosedForm
pub mod Examples
