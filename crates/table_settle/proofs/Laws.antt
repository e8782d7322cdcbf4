pub mod Nexts
pub mod Settle
pub mod Settled
