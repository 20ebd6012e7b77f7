pub mod Check
pub mod LengthLaws
pub mod ValueLaws
