pub mod ItemsInOrder
pub mod NotesAhead
pub mod Offered
pub mod ReadItems
pub mod ServedAhead
pub mod Stays
