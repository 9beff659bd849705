pub mod CallEndings
pub mod CommitAnswers
pub mod OnceLaws
pub mod Redrawn
pub mod Showing
pub mod StoredOnce
