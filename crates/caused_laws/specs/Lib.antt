pub mod Replies
pub mod Laws
pub mod Telling
pub mod ServiceTerms
