pub mod Answers
pub mod Convert
pub mod Write
