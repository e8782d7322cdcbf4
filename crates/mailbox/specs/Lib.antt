pub mod Answers
pub mod Mailbox
pub mod Needless
