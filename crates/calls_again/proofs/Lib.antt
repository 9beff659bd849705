mod MoreDraws
pub mod Offered
mod Ran
