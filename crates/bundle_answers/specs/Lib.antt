pub mod AnswerBytes
pub mod Examples
