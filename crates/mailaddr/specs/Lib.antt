pub mod Answers
pub mod Code
pub mod Domain
pub mod Shape
pub mod Tail
