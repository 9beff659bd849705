pub mod Facts
pub mod Kept
pub mod Lists
pub mod Runs
