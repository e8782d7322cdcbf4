pub mod Entry
pub mod Feeds
pub mod FirstBad
pub mod Load
pub mod Whole
pub mod Written
