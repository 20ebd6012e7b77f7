pub mod WriteEnds
pub mod ValueLaws
