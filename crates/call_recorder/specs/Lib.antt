pub mod History
pub mod meaning
