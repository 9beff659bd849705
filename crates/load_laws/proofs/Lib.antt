pub mod Accounts
pub mod Insides
pub mod Owned
pub mod Serials
pub mod Totals
pub mod Transfers
