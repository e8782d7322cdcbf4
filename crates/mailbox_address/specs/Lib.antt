pub mod Answers
pub mod Grammar
