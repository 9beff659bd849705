pub mod Facts
pub mod Knows
