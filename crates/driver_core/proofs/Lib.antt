mod Elsewhere
pub mod Resting
pub mod Keeping
