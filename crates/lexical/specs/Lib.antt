pub mod Answers
pub mod Comment
pub mod Nesting
pub mod Quoted
pub mod Space
pub mod Tokens
