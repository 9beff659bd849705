pub mod Sources
pub mod Granting
pub mod History
pub mod Epochs
pub mod Laws
pub mod meaning
