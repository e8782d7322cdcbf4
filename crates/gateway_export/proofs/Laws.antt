pub mod Bounds
pub mod Exports
