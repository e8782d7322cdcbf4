pub mod Carried
pub mod Closing
pub mod Code
pub mod Domain
pub mod Options
pub mod Shape
pub mod Shaped
pub mod Tail
