pub mod ObjectsAhead
pub mod meaning
