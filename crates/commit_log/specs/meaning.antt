-- What the program's promise means: all that its definition uses of this crate.
pub mod BaseBytes
pub mod Bases
pub mod Journals
pub mod RecordBytes
pub mod Rules
