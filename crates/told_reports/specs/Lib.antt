pub mod Keeping
pub mod meaning
