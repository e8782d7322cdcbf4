pub mod FirstBad
pub mod Formed
pub mod Keys
pub mod Lines
pub mod Rows
pub mod Table
pub mod Props
