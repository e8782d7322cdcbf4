pub mod Answers
pub mod Atoms
pub mod Code
pub mod Convert
