pub mod PlaceTests
pub mod Effects
pub mod PlaceLaws
pub mod RowLaws
