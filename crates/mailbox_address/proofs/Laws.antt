pub mod AddressWords
pub mod Dotted
pub mod Grammar
pub mod Hops
pub mod Lexeme
pub mod Route
pub mod Spec
pub mod Words
