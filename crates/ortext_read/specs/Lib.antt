pub mod Answers
pub mod Apply
