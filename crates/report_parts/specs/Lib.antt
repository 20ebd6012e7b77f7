pub mod PlaceParts
pub mod Ranked
pub mod PlacePartsLaws
pub mod LengthLaws
pub mod EntryLaws
pub mod ListedLaws
