pub mod Coverings
pub mod Laws
pub mod Made
pub mod Walks
pub mod meaning
