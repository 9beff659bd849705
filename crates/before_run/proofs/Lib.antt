mod Indexing
mod JournalKept
pub mod Offered
mod StartBase
