pub mod Session
pub mod Finishing
pub mod MachineLaws
pub mod FinishLaws
pub mod InPieces
pub mod PieceLaws
pub mod Examples
