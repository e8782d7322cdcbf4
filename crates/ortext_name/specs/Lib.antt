pub mod Name
pub mod Places
