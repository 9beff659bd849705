mod Lists
mod Merging
mod Placed
pub mod Offered
