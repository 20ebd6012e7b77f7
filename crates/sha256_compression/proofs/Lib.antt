pub mod Steps
pub mod Schedule
pub mod Words
pub mod Identities
