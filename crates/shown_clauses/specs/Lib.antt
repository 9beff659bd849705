pub mod Legal
pub mod Showings
pub mod Whole
pub mod meaning
