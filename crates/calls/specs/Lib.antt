pub mod Targets
pub mod Answers
