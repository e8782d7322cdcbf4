pub mod Address
pub mod AddressSame
pub mod Again
pub mod Bare
pub mod Depth
pub mod Read
pub mod Written
