-- What the program's promise means: all that its definition uses of this crate.
pub mod Asked
pub mod Effects
pub mod Meaning
pub mod Operands
pub mod Plans
pub mod Reads
pub mod Serial
pub mod SerialTest
