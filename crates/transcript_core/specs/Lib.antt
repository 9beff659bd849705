pub mod Following
pub mod Hearing
pub mod Attempts
pub mod Drafts
