pub mod States
pub mod Released
pub mod Conversation
pub mod Account
pub mod Reasons
pub mod Tried
pub mod Laws
pub mod meaning
