pub mod Commits
pub mod Numbering
