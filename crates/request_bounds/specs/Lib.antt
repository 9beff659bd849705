pub mod Law
pub mod Limits
pub mod InnerLawful
pub mod meaning
