pub mod Line
pub mod Ready
