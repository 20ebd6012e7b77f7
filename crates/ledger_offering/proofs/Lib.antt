pub mod TakeLaws
pub mod OfferLaws
