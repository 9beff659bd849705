pub mod Offered
pub mod calls
pub mod values
