pub mod Back
pub mod Left
pub mod Quoted
pub mod Write
pub mod Written
