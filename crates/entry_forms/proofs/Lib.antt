pub mod ObjectsAhead
pub mod Offered
pub mod ReadEntries
