pub mod Answers
pub mod Apply
pub mod Held
pub mod Scanned
pub mod Values
