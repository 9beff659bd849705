pub mod Accounts
pub mod Insides
pub mod Loads
