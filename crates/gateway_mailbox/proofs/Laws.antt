pub mod Mailboxes
