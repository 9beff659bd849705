pub mod Books
pub mod Journal
pub mod Known
pub mod Lookups
pub mod Making
pub mod Offered
