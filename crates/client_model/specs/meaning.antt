-- What the program's promise means: all that its definition uses of this crate.
pub mod Account
pub mod Conversation
pub mod Released
pub mod States
pub mod Talk
pub mod Terms
pub mod Told
pub mod Tried
pub mod Verifying
