pub mod Holding
pub mod Pairing
