-- What the program's promise means: all that its definition uses of this crate.
pub mod Events
pub mod Numbers
pub mod Scripts
pub mod Service
pub mod Tables
