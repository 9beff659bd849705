pub mod InnerMaking
pub mod Journal
pub mod Laws
pub mod Sessions
pub mod meaning
