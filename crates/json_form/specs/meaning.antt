-- What the program's promise means: all that its definition uses of this crate.
pub mod Arrays
pub mod Faults
pub mod Objects
pub mod Pointers
pub mod Texts
pub mod Values
pub mod Writing
