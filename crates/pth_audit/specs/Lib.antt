pub mod Auditing
pub mod Blocking
pub mod Endings
pub mod Holds
pub mod Mailboxes
pub mod Success
pub mod Verdicts
