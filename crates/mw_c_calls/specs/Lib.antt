pub mod Answers
pub mod CallAnswers
pub mod Calls
pub mod Rows
pub mod Sources
