pub mod Canonical
pub mod Made
pub mod Same
pub mod Text
pub mod View
