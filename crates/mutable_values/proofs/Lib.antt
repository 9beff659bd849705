mod Cases
mod Draws
mod Firsts
mod Given
mod Histories
mod Identifiers
pub mod Offered
mod Places
mod Rising
mod Staying
