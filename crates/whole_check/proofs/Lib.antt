mod Alls
mod Alone
mod Fronting
pub mod Fitting
mod Owning
mod Permuted
mod PlainLines
mod TriedLists
mod TurnedLines
mod WholeLines
