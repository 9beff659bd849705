pub mod ItemsAhead
pub mod NotesAhead
pub mod meaning
