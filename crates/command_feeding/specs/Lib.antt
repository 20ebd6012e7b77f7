pub mod Answering
pub mod AnsweringLaws
pub mod Feeding
pub mod FeedLaws
