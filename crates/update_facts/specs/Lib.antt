pub mod Facts
pub mod FactsLaws
