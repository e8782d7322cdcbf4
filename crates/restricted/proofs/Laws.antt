pub mod Atoms
pub mod Back
pub mod Code
pub mod Convert
pub mod Examples
pub mod Parse
pub mod Plain
