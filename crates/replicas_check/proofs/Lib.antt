pub mod OfferAll
pub mod CompareLaws
