mod Plainly
mod Fitting
mod Walked
mod Fronted
mod Turned
mod Placed
mod Changing
mod Pushed
pub mod Offered
