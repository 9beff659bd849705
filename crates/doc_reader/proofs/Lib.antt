pub mod Naming
pub mod Parts
pub mod OneByOne
pub mod Joined
pub mod ReadDocuments
