pub mod Views
pub mod Told
pub mod Fitting
pub mod Places
