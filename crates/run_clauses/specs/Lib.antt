pub mod Fresh
pub mod Tried
pub mod meaning
