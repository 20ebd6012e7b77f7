pub mod MarkLaws
pub mod TextLaws
