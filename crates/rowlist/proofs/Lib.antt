pub mod Lesser
pub mod Laid
pub mod Listed
