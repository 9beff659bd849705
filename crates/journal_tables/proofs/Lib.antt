mod Applied
mod BaseRows
pub mod Offered
