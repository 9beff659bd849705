pub mod Laws
pub mod Numbers
pub mod Tokens
pub mod meaning
