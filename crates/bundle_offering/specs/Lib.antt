pub mod Bundle
pub mod ValueLaws
