pub mod Places
pub mod meaning
