-- What the program's promise means: all that its definition uses of this crate.
pub mod Items
pub mod Notes
pub mod Told
