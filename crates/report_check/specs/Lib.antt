pub mod Judged
pub mod meaning
