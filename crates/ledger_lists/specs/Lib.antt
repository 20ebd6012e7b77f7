pub mod PlaceItems
