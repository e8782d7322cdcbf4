pub mod Adding
pub mod Spans
