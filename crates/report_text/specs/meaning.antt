-- What the program's promise means: all that its definition uses of this crate.
pub mod Answers
pub mod Calls
pub mod Entries
pub mod Failures
pub mod Items
pub mod Notes
pub mod Octets
pub mod Parts
pub mod Report
pub mod Requests
pub mod Values
