pub mod Back
pub mod Bounds
pub mod Convert
pub mod Offset
pub mod Written
