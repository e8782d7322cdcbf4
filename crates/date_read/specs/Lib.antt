pub mod Date
pub mod Read
