pub mod Ahead
pub mod InnerCounting
pub mod Keeping
pub mod meaning
