pub mod Case
pub mod Class
pub mod Digits
pub mod Domain
pub mod Lists
pub mod Parts
pub mod Spaces
pub mod Write
