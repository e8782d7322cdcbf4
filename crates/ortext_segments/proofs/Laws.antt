pub mod KeyLengths
pub mod Keys
pub mod Scan
pub mod Segments
