pub mod Date
pub mod Month
pub mod Names
pub mod Read
