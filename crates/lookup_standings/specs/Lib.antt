pub mod Lookup
pub mod Gathering
pub mod IdOrderLaws
pub mod ValueLaws
