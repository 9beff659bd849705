mod CommitsAt
mod Counted
pub mod Offered
mod Ranks
mod Runs
mod Timed
