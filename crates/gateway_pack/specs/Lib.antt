pub mod Filled
pub mod Packed
