pub mod Load
pub mod Ready
