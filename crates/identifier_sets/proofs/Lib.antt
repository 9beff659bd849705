mod Keyed
pub mod Offered
