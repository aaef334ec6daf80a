pub mod Sizes
pub mod Rest
pub mod Answers
