pub mod Bounds
pub mod Entire
pub mod Rooms
