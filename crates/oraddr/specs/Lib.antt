pub mod Add
pub mod Attributes
pub mod Bounds
pub mod Canonical
pub mod Same
pub mod View
