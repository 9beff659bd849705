pub mod Ends
pub mod meaning
