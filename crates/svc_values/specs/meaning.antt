-- What the program's promise means: all that its definition uses of this crate.
pub mod Calls
pub mod Draws
pub mod Endings
pub mod Fitting
pub mod Identifiers
pub mod Kinds
pub mod Names
pub mod Order
pub mod Same
pub mod Schemas
pub mod SettingsList
pub mod Tables
pub mod Tests
pub mod Texts
