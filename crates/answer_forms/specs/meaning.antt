-- What the program's promise means: all that its definition uses of this crate.
pub mod Answers
pub mod Draws
pub mod Parts
