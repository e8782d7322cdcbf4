pub mod Compare
pub mod Insert
pub mod Order
pub mod Place
pub mod Spell
pub mod Props
