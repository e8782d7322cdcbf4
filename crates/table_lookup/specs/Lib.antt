pub mod Begins
pub mod Levels
pub mod Looked
pub mod Lookup
pub mod Search
pub mod Props
pub mod Tokens
