pub mod Beside
pub mod meaning
