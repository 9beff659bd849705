pub mod Keys
pub mod Facts
pub mod Told
pub mod Blocking
pub mod Judging
