-- What the program's promise means: all that its definition uses of this crate.
pub mod Reports
