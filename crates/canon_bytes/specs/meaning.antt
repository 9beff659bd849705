-- What the program's promise means: all that its definition uses of this crate.
pub mod AnswerBytes
pub mod CallBytes
pub mod ColumnBytes
pub mod DownBytes
pub mod Draws
pub mod Entries
pub mod Lists
pub mod Numbers
pub mod Operands
pub mod Options
pub mod Reading
pub mod SettingsBytes
pub mod StatementBytes
pub mod TextBytes
pub mod UpBytes
pub mod Values
