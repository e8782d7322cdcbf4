pub mod Insert
pub mod Order
pub mod Place
pub mod Props
pub mod Ranks
