pub mod SetLaws
pub mod StoredLaws
pub mod FitLaws
pub mod CheckLaws
pub mod FullReports
pub mod Copies
pub mod BundleCopies
