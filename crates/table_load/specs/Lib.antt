pub mod Load
pub mod Props
pub mod Tables
