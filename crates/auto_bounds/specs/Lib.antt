pub mod Covered
pub mod InnerLawful
