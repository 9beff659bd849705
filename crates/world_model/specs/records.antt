-- The records of what is orderly, and what they speak of.
pub mod Basic
pub mod Conversing
pub mod Hold
pub mod Number
pub mod Ready
pub mod Script
pub mod Wire
