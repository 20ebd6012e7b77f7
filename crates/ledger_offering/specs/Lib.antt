pub mod Values
pub mod ValueLaws
pub mod Words
pub mod Offer
pub mod Calls
pub mod CallsLaws
